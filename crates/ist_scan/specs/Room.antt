-- How many words a shot takes, and what a pass that asks for room first concludes.
use Rattle.std.specs.Prelude.{◌≡◌, ℕ, ◌+◌, ◌≤◌}
use Rattle.ist_core.specs.declared.ports.Full.{Full}
use Rattle.ist_core.specs.Logs.{Log}
use Rattle.ist_core.specs.RowLayout.{change_words, rebuild_words}
use Rattle.ist_core.specs.Spending.{spent}
use Rattle.ist_tree.specs.declared.freezing.Frozen.{Frozen}
use Rattle.ist_tree.specs.Faces.{PassFace}
use Rattle.ist_tree.specs.Freezing.{FreezesInFew, FreezesWhole, IsFreezeRefused, words_of_freeze}
use Rattle.ist_tree.specs.RealTime.{StepsIn}
use Rattle.ist_tree.specs.Refusals.{HadTooFew}
use Rattle.ist_tree.specs.Room.{HasMadeNone, TakesAlone}

-- the words of the rows that one pass takes at most for a shot of this many keys: those of a freeze
abbrev pub words_of_shot : ℕ → ℕ
words_of_shot = words_of_freeze

-- at a step of the pass in this call, at least this many words were left
pub record HadRoom (p q : PassFace) (words : ℕ) : Type 0 where
  pub at : Log
  pub step : StepsIn p q at
  pub enough : spent p.tree.start at + words ≤ p.tree.words

-- fewer words than these were left at such a step; the pass made no event in the call, so that
-- nothing was frozen by it
pub record HadNoRoom (p q : PassFace) (words : ℕ) (full : Full) : Type 0 where
  pub had : HadTooFew (λ at asked. asked ≡ words) p q full
  pub step : StepsIn p q had.at
  pub none : HasMadeNone p q

-- no shot was taken: there was no room; or there was, and the freeze was refused after that. If the
-- room was enough for the two rows of a start, others took words since
pub data IsShotRefused (p q : PassFace) (words : ℕ) (full : Full) : Type 0 where
  for_room : HadNoRoom p q words full → IsShotRefused p q words full
  for_start : (room : HadRoom p q words) → IsFreezeRefused p q full
      → (rebuild_words + change_words ≤ words → ¬ (TakesAlone p room.at q.seen))
      → IsShotRefused p q words full

-- a shot isn't refused if at a step of the pass in this call there was room for the two rows of a
-- start, and since then only the pass took words
abbrev pub LoneShotsAreTaken : Type 0
LoneShotsAreTaken =
    (p q : PassFace) (words : ℕ) (full : Full) → (room : HadRoom p q words)
    → rebuild_words + change_words ≤ words → TakesAlone p room.at q.seen
    → ¬ (IsFreezeRefused p q full)

-- a shot is whole if at a step of the pass in this call at least its words were left, and since then
-- only the pass took words: it was rebuilt, no refusal was met, and the pass took at most its words
abbrev pub LoneShotsAreWhole : Type 0
LoneShotsAreWhole =
    (p q : PassFace) (shot : Frozen) (words : ℕ) → FreezesInFew p q shot → (room : HadRoom p q words)
    → words_of_shot shot.keys ≤ words → TakesAlone p room.at q.seen → FreezesWhole p q shot
