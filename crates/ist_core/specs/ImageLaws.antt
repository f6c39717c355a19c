-- The laws over lawful logs that are about the words of a table. `src/laws.rt` lists them.
use Rattle.std.specs.Prelude.{◌≡◌, ℕ, List, ◌∷◌, slice_get, Some}
use Rattle.ist_core.specs.declared.pairs.Pair.{Pair}
use Rattle.ist_core.specs.declared.events.Event.{Event}
use Rattle.ist_core.specs.declared.events.Event.TheVariants.{Lose}
use Rattle.ist_core.specs.Snapshots.{Snapshot}
use Rattle.ist_core.specs.Images.{IsImage}
use Rattle.ist_core.specs.Logs.{Log}
use Rattle.ist_core.specs.Slots.{SlotHolds}
use Rattle.ist_core.specs.Lawful.{Lawful, state_of}
use Rattle.ist_core.specs.Writing.{Touch, touch_of, touched, place_of_slot, published_by, RowsStand}

-- every event but a Lose
abbrev pub IsNoLose : Event → Type 0
IsNoLose (Lose caller bases) = ⊥
IsNoLose _ = Unit {0}

-- the step of the event touches a word, and finds there the word that the event expects
pub record Touches (t : Snapshot) (event : Event) (words : List ℕ) : Type 0 where
  pub touch : Touch
  pub is : touch_of t event ≡ Some touch
  pub found : slice_get words touch.place ≡ Some touch.found

-- each event but a Lose touches one word of the image, and finds there the word that it expects
abbrev pub WordsAreFound : Type 0
WordsAreFound =
    (pairs : List Pair) (words : ℕ) (log : Log) (event : Event) → Lawful pairs words (event ∷ log)
    → IsNoLose event
    → (image : List ℕ) → IsImage (state_of pairs words log) image
    → Touches (state_of pairs words log) event image

-- if the rows that an event publishes are in their words already, the event changes at most one
-- word of the image: the word that it touches becomes what the event leaves there
abbrev pub OneWordIsWritten : Type 0
OneWordIsWritten =
    (pairs : List Pair) (words : ℕ) (log : Log) (event : Event) → Lawful pairs words (event ∷ log)
    → (image : List ℕ)
    → IsImage (state_of pairs words log) image → RowsStand image (published_by event)
    → IsImage (state_of pairs words (event ∷ log))
    (touched image (touch_of (state_of pairs words log) event))

-- the word of a slot is found at the slot's place
abbrev pub SlotsStandInTheImage : Type 0
SlotsStandInTheImage =
    (pairs : List Pair) (words : ℕ) (log : Log) → Lawful pairs words log → (image : List ℕ)
    → IsImage (state_of pairs words log) image → (node i word : ℕ)
    → SlotHolds (state_of pairs words log) node i word
    → slice_get image (place_of_slot (state_of pairs words log) node i) ≡ Some word
