-- Statuses, and the reply and the refusal that a result represents.
use Rattle.std.specs.Prelude.{ℕ, Bool, true, false, Option, Some, None}
use Rattle.ist_core.specs.declared.ports.Full.{Full}
use Rattle.ist_handles.specs.declared.results.Shortage.{Shortage}

-- the call was made
abbrev pub done : ℕ
done = 0

-- there was no memory for the result
abbrev pub memory : ℕ
memory = 1

-- the tree of the pairs takes more words
abbrev pub small : ℕ
small = 2

-- a pass or a note is out
abbrev pub busy : ℕ
busy = 3

-- a handle holds something else or nothing, or a number is too large
abbrev pub misuse : ℕ
misuse = 4

-- too few words of the tree were left
abbrev pub full : ℕ
full = 5

-- no such key has a value
abbrev pub no_key : ℕ
no_key = 6

-- the value, if there is one
abbrev pub value_if : Bool → ℕ → Option ℕ
value_if true value = Some value
value_if false value = None

-- the refusal with these numbers
abbrev pub full_of : Shortage → Full
full_of s = record { next = s.next; asked = s.asked; words = s.words }
