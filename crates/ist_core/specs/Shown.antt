-- Which words of a table every seat may read: the words of the image, which are all except the
-- words of held and lost rows.
use Rattle.std.specs.Prelude.{◌≡◌, ℕ, ◌+◌, ◌<◌, ◌≤◌, slice_get, Some}
use Rattle.ist_core.specs.RowLayout.{next_place, callers_place, anchor_status_place, anchor_slot_place}
use Rattle.ist_core.specs.Statuses.{open_word}
use Rattle.ist_core.specs.Pieces.{Piece, words_of}
use Rattle.ist_core.specs.Snapshots.{Snapshot}

-- the image of the state has this word at the place: a fixed word, a word of a published row, or a
-- free word, which is 0
pub data IsShown (t : Snapshot) : ℕ → ℕ → Type 0 where
  shown_next : IsShown t next_place t.next
  shown_callers : IsShown t callers_place t.callers
  shown_status : IsShown t anchor_status_place open_word
  shown_slot : IsShown t anchor_slot_place t.anchor
  shown_row : {word : ℕ} (base : ℕ) (p : Piece) (k : ℕ) → t.pieces base ≡ Some p
      → slice_get (words_of p) k ≡ Some word
      → IsShown t (base + k) word
  shown_free : {place : ℕ} → t.next ≤ place → place < t.words → IsShown t place 0
