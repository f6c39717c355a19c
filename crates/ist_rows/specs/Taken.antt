-- How many words a caller has taken in a log, and whether that is few.
use Rattle.std.specs.Prelude.{◌≡◌, ℕ, ◌+◌, ◌≤◌, ◌==◌, if◌then◌else◌, List, [], ◌∷◌, Result, Ok, Err}
use Rattle.ist_core.specs.declared.events.Event.{Event}
use Rattle.ist_core.specs.declared.events.Event.TheVariants.{Reserve}
use Rattle.ist_core.specs.declared.pairs.Pair.{Pair}
use Rattle.ist_core.specs.declared.ports.Full.{Full}
use Rattle.ist_core.specs.Logs.{GoesOn, Log}
use Rattle.ist_rows.specs.declared.callers.Caller.{Caller}
use Rattle.ist_rows.specs.Shortage.{LeftTooFew}

-- how many words an event takes for this caller
abbrev pub taken_at : ℕ → Event → ℕ
taken_at number (Reserve caller base size) = if caller == number then size else 0
taken_at number _ = 0

-- how many words the caller has taken in the log: those of all rows that it reserved
abbrev pub taken_by : ℕ → Log → ℕ
taken_by number [] = 0
taken_by number (event ∷ log) = taken_by number log + taken_at number event

-- ---- few words

-- with what was asked for after the log the caller would have taken at most so many words
abbrev pub WouldTake : ℕ → ℕ → Log → ℕ → Type 0
WouldTake number most at asked = taken_by number at + asked ≤ most

-- after a log between these too few words were left for rows with which the caller would have taken
-- at most n words since the earlier log
abbrev pub RanOut : ℕ → ℕ → ℕ → List Pair → Log → Log → Type 0
RanOut number n words pairs earlier log =
    let most = taken_by number earlier + n in
    (full : Full) × LeftTooFew (WouldTake number most) pairs words earlier log full

-- since the earlier log the caller took at most n words, and so many less that `left` of the n are
-- left; or the words ran out for that
pub data TakesFew (number n left words : ℕ) (pairs : List Pair) (earlier log : Log) : Type 0 where
  took_few : taken_by number log + left ≤ taken_by number earlier + n
      → TakesFew number n left words pairs earlier log
  ran_out : RanOut number n words pairs earlier log
      → TakesFew number n left words pairs earlier log

-- the later state is of the same caller, with the same table and a longer log
pub record IsLaterCaller (old new : Caller) : Type 0 where
  pub number : new.number ≡ old.number
  pub start : new.token.view.start ≡ old.token.view.start
  pub words : new.token.view.words ≡ old.token.view.words
  pub on : GoesOn old.token.view.log new.token.view.log

-- the caller went on and took no words
pub record TakesNoWords (old new : Caller) : Type 0 where
  pub later : IsLaterCaller old new
  pub none : taken_by old.number new.token.view.log ≡ taken_by old.number old.token.view.log

-- the words ran out so for the caller
abbrev pub HasRunOut : ℕ → Caller → Caller → Type 0
HasRunOut n old new =
    let v = old.token.view in RanOut old.number n v.words v.start v.log new.token.view.log

-- the caller took few words so
abbrev pub HasTakenFew : ℕ → ℕ → Caller → Caller → Type 0
HasTakenFew n left old new =
    let v = old.token.view in TakesFew old.number n left v.words v.start v.log new.token.view.log

-- so it did in a call with this result: if that is an error, the words ran out
abbrev pub HasTakenFewIn : {A : Type 0} → Result A Full → ℕ → ℕ → Caller → Caller → Type 0
HasTakenFewIn (Ok x) n left old new = HasTakenFew n left old new
HasTakenFewIn (Err full) n left old new = HasRunOut n old new
