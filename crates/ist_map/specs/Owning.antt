-- A key that only one worker changes.
use Rattle.std.specs.Prelude.{◌≡◌, ◌≢◌, ℕ, ◌==◌, Bool, List, [], ◌∷◌, filter, Option, Some, None}
use Rattle.std.specs.FinMap as fin
use Rattle.ist_core.specs.declared.commands.Command.{Command}
use Rattle.ist_core.specs.declared.commands.Command.TheVariants.{Put, Remove, Get}
use Rattle.ist_core.specs.Elements.{Each}
use Rattle.ist_core.specs.Map.{Map, key_of}
use Rattle.ist_core.specs.Histories.{IsLegal}
use Rattle.ist_core.specs.Replies.{Answered}
use Rattle.ist_reopen.specs.Interleaving.{IsMadeOf}

-- is the call about this key?
abbrev pub is_about : ℕ → Answered → Bool
is_about key told = key_of told.command == key

-- the value of a key after a command about it
abbrev pub value_after : Option ℕ → Command → Option ℕ
value_after value (Put key new) = Some new
value_after value (Remove key) = None
value_after value (Get key) = value

-- calls about one key, which has this value first: each gets the value that the calls before it left
abbrev pub ReadBack : Option ℕ → List Answered → Type 0
ReadBack value [] = Unit {0}
ReadBack value (told ∷ more) =
    (told.reply ≡ value) × ReadBack (value_after value told.command) more

-- of the calls about this key, each is a get
abbrev pub OnlyGets : ℕ → List Answered → Type 0
OnlyGets key told = Each (λ it. key_of it.command ≡ key → it.command ≡ Get key) told

-- if all others only get a key, its owner reads back what it wrote, and takes away what is there: its
-- calls about the key get the replies that they would get if no one else made a call
abbrev pub OwnersReadBack : Type 0
OwnersReadBack =
    (m : Map) (lists : ℕ → List Answered) (history : List Answered) → IsLegal m history
    → IsMadeOf lists history → (key owner : ℕ)
    → ((other : ℕ) → other ≢ owner → OnlyGets key (lists other))
    → ReadBack (fin.get m key) (filter (is_about key) (lists owner))
