-- The words of a table in a state.
use Rattle.std.specs.Prelude.{◌≡◌, ℕ, ◌+◌, ◌<◌, ◌≤◌, List, length, slice_get, Some}
use Rattle.ist_core.specs.RowLayout.{next_place, callers_place, anchor_status_place, anchor_slot_place}
use Rattle.ist_core.specs.Statuses.{open_word}
use Rattle.ist_core.specs.Pieces.{Piece, words_of}
use Rattle.ist_core.specs.Snapshots.{Snapshot}

-- the words of the row are found from the base on
abbrev pub StandsAt : List ℕ → ℕ → Piece → Type 0
StandsAt words base p =
    (k : ℕ) → k < length (words_of p) → slice_get words (base + k) ≡ slice_get (words_of p) k

-- the words are the image of the state: the right number of words, the fixed words, the words of
-- each published row, and zeros from `next` on. Nothing is said of the words of held and lost rows
pub record IsImage (t : Snapshot) (words : List ℕ) : Type 0 where
  pub size : length words ≡ t.words
  pub next : slice_get words next_place ≡ Some t.next
  pub callers : slice_get words callers_place ≡ Some t.callers
  pub anchor_status : slice_get words anchor_status_place ≡ Some open_word
  pub anchor_slot : slice_get words anchor_slot_place ≡ Some t.anchor
  pub rows : (base : ℕ) (p : Piece) → t.pieces base ≡ Some p → StandsAt words base p
  pub free : (place : ℕ) → t.next ≤ place → place < t.words → slice_get words place ≡ Some 0
