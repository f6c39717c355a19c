-- The history of several passes on one log, and when a history is legal.
use Rattle.std.specs.Prelude.{◌≡◌, ℕ, ◌+◌, ◌==◌, nat_lt, Bool, not, if◌then◌else◌, List, [], ◌∷◌, ◌++◌, map, filter}
use Rattle.std.specs.List.{flat_map}
use Rattle.ist_core.specs.declared.calls.Call.{Call}
use Rattle.ist_core.specs.declared.pairs.Pair.{Pair}
use Rattle.ist_core.specs.Map.{Map, replies}
use Rattle.ist_core.specs.Replies.{Answered}
use Rattle.ist_core.specs.Elements.{Each}
use Rattle.ist_core.specs.Logs.{Log, GoesOn}
use Rattle.ist_core.specs.Changes.{Entry}
use Rattle.ist_core.specs.Standing.{is_change, StandsIn}

-- a pass: its number and its calls, in order
pub record PassCalls : Type 0 where
  pub number : ℕ
  pub calls : List Call

-- the calls of each pass are placed in a prefix of the log
abbrev pub StandInPrefixes : List Pair → ℕ → Log → List PassCalls → Type 0
StandInPrefixes pairs words log passes =
    Each (λ pass. (prefix : Log) × GoesOn prefix log × StandsIn pairs words prefix pass.number pass.calls) passes

-- a call that makes no entry, with the number of its pass
pub record Reading : Type 0 where
  pub number : ℕ
  pub call : Call

-- the readings of a pass
abbrev pub readings_of : PassCalls → List Reading
readings_of pass =
    let reads = filter (λ call. not (is_change call)) pass.calls in
    map (λ call. record { number = pass.number; call = call }) reads

-- the readings of some passes
abbrev pub readings : List PassCalls → List Reading
readings passes = flat_map readings_of passes

-- a reading with a lower stamp comes first; among equal stamps, the one with the lower number
abbrev pub comes_first : Reading → Reading → Bool
comes_first x y = if x.call.stamp == y.call.stamp then nat_lt x.number y.number else nat_lt x.call.stamp y.call.stamp

-- a reading put into its place among readings in order
abbrev pub put_in : Reading → List Reading → List Reading
put_in x [] = x ∷ []
put_in x (y ∷ ys) = if comes_first x y then x ∷ y ∷ ys else y ∷ put_in x ys

-- the readings in order of stamp and number
abbrev pub in_order : List Reading → List Reading
in_order [] = []
in_order (x ∷ xs) = put_in x (in_order xs)

-- the readings at a position
abbrev pub at_position : ℕ → List Reading → List Reading
at_position position xs = filter (λ x. x.call.position == position) xs

-- the command of a change, and the reply to it
abbrev pub told_by_entry : Entry → Answered
told_by_entry entry = record { command = entry.command; reply = entry.reply }

-- the command of a reading, and the reply to it
abbrev pub told_by_reading : Reading → Answered
told_by_reading x = record { command = x.call.command; reply = x.call.reply }

-- the history from a position on: the readings at it, then the entry at it, and so on
abbrev pub woven_from : ℕ → List Entry → List Reading → List Answered
woven_from position [] xs = map told_by_reading (at_position position xs)
woven_from position (entry ∷ entries) xs =
    map told_by_reading (at_position position xs) ++ (told_by_entry entry ∷ woven_from (position + 1) entries xs)

-- the woven history: the changes, with the readings of the passes inserted at their positions
abbrev pub woven : List Entry → List PassCalls → List Answered
woven entries passes = woven_from 0 entries (in_order (readings passes))

-- the history is legal: a map of one thread gives each reply
abbrev pub IsLegal : Map → List Answered → Type 0
IsLegal m history = replies m (map (λ told. told.command) history) ≡ map (λ told. told.reply) history
