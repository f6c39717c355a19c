-- Too few words were left: how many were asked for, when it was so, and for what.
use Rattle.std.specs.Prelude.{◌≡◌, ℕ, ◌+◌, ◌<◌, List}
use Rattle.ist_core.specs.declared.pairs.Pair.{Pair}
use Rattle.ist_core.specs.declared.ports.Full.{Full}
use Rattle.ist_core.specs.Logs.{GoesOn, Log}
use Rattle.ist_core.specs.RowLayout.{next_place}
use Rattle.ist_core.specs.Spending.{spent}
use Rattle.ist_rule.specs.declared.view.View.{View}
use Rattle.ist_rule.specs.Learning.{Looked}

-- fewer of the table's words are left than were asked for, and `Asks` holds of how many that were
pub record AreTooFew (Asks : ℕ → Type 0) (words : ℕ) (full : Full) : Type 0 where
  pub words_is : full.words ≡ words
  pub small : words < full.next + full.asked
  pub asked : Asks full.asked

-- a load of the first word, the last step of the call, gave how many words are used, and too few are
-- left for what `Asks` says; until then the token went on as `Seen` says
pub record RanShort (Seen : View → View → Type 0) (Asks : ℕ → Type 0) (v : View) (words : ℕ)
    (full : Full) (w : View) : Type 0 where
  pub before : View
  pub seen : Seen v before
  pub looked : Looked before next_place full.next w
  pub few : AreTooFew Asks words full

-- after this log `next` of a table's words were spent, and too few were left for what `Asks` says
pub record LeavesTooFew (Asks : ℕ → Type 0) (pairs : List Pair) (words : ℕ) (at : Log) (full : Full)
    : Type 0 where
  pub next_is : full.next ≡ spent pairs at
  pub few : AreTooFew Asks words full

-- after some log between these too few words were left for what `Asks` says of that log
pub record LeftTooFew (Asks : Log → ℕ → Type 0) (pairs : List Pair) (words : ℕ) (earlier log : Log)
    (full : Full) : Type 0 where
  pub at : Log
  pub since : GoesOn earlier at
  pub until : GoesOn at log
  pub left : LeavesTooFew (Asks at) pairs words at full
