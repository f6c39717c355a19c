-- Loads: what each reports of the table at its own moment.
use Rattle.std.specs.Prelude.{◌≡◌, ℕ, ◌+◌, ◌-◌, ◌<◌, ◌≤◌, ◌⊎◌, List, drop, length, slice_get, Some, None}
use Rattle.ist_core.specs.declared.loads.Load.{Load}
use Rattle.ist_core.specs.declared.pairs.Pair.{Pair}
use Rattle.ist_core.specs.Shown.{IsShown}
use Rattle.ist_core.specs.Snapshots.{Snapshot}
use Rattle.ist_core.specs.Images.{IsImage}
use Rattle.ist_core.specs.Logs.{Log, GoesOn}
use Rattle.ist_core.specs.Lawful.{Lawful, state_of}
use Rattle.ist_core.specs.Rows.{IsSetAside}

-- the log as it was when it had n events
abbrev pub log_at : Log → ℕ → Log
log_at log n = drop (length log - n) log

-- the load returned the word that the table showed at its place at that moment, if it showed one
abbrev pub Tells : List Pair → ℕ → Log → Load → Type 0
Tells pairs words log load =
    (word : ℕ) → IsShown (state_of pairs words (log_at log load.length)) load.place word
    → load.word ≡ word

-- a load of the place, made when the log had at least `least` events
pub record IsLoad (pairs : List Pair) (words : ℕ) (log : Log) (place least : ℕ)
    (load : Load) : Type 0 where
  pub tells : Tells pairs words log load
  pub place_is : load.place ≡ place
  pub since : least ≤ load.length
  pub within : load.length ≤ length log

-- ---- what ties a load to the words of the table

-- the image has each shown word at its place
abbrev pub WordsStandInTheImage : Type 0
WordsStandInTheImage =
    (t : Snapshot) (image : List ℕ) → IsImage t image → (place word : ℕ) → IsShown t place word
    → slice_get image place ≡ Some word

-- a place shows only one word
abbrev pub WordsAreOne : Type 0
WordsAreOne =
    (pairs : List Pair) (words : ℕ) (log : Log) → Lawful pairs words log → (place word other : ℕ)
    → IsShown (state_of pairs words log) place word → IsShown (state_of pairs words log) place other
    → word ≡ other

-- a place that shows a word is in no row that is held or was lost: in no row that was set aside and
-- isn't published
abbrev pub WordsLieInNoOtherRow : Type 0
WordsLieInNoOtherRow =
    (pairs : List Pair) (words : ℕ) (log : Log) → Lawful pairs words log
    → (place word base size : ℕ) → IsShown (state_of pairs words log) place word
    → IsSetAside pairs words log base size → (state_of pairs words log).pieces base ≡ None
    → (place < base) ⊎ (base + size ≤ place)

-- ---- in a longer log

-- cutting a log to the length of a prefix gives that prefix
abbrev pub PrefixesAreAt : Type 0
PrefixesAreAt = (prefix log : Log) → GoesOn prefix log → log_at log (length prefix) ≡ prefix

-- what a load reported stays true in a longer log
abbrev pub LoadsTellOn : Type 0
LoadsTellOn =
    (pairs : List Pair) (words : ℕ) (log longer : Log) → GoesOn log longer
    → (place least : ℕ) (load : Load) → IsLoad pairs words log place least load
    → IsLoad pairs words longer place least load
