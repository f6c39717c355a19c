-- Whether all inner rows that are reached are settled, and whether they are in good shape, as read
-- from the words.
use Rattle.std.specs.Prelude.{◌≡◌, ℕ, ◌+◌, ◌<◌, List, Some}
use Rattle.ist_core.specs.Arithmetic.{limit}
use Rattle.ist_core.specs.RowLayout.{anchor_slot_place, inner_count_offset}
use Rattle.ist_core.specs.References.{InnerAt}
use Rattle.ist_core.specs.Statuses.{open_word}
use Rattle.ist_core.specs.Elements.{Among}
use Rattle.ist_rest.specs.WordRows.{word_at, row_size, row_slots, reads_in}
use Rattle.ist_rest.specs.Walks.{Visit, IsGood}
use Rattle.ist_rest.specs.Steps.{IsRowHere}

-- the second inner row is the first, or is reached from it slot by slot
pub data ReachedFrom (words : List ℕ) : ℕ → ℕ → Type 0 where
  itself : {base : ℕ} → ReachedFrom words base base
  through : {base child node : ℕ} (word : ℕ) → Among word (row_slots words base)
      → reads_in words word ≡ Some (InnerAt child)
      → ReachedFrom words child node → ReachedFrom words base node

-- the row is open, and counts fewer updates than its limit
pub record IsSettledRow (words : List ℕ) (base : ℕ) : Type 0 where
  pub is_open : word_at words base ≡ open_word
  pub not_due : word_at words (base + inner_count_offset) < limit (row_size words base)

-- each row that is reached from this one is settled
abbrev pub AreSettledFrom : List ℕ → ℕ → Type 0
AreSettledFrom words base = (node : ℕ) → ReachedFrom words base node → IsSettledRow words node

-- each row that is reached from the anchor is settled
abbrev pub AreSettled : List ℕ → Type 0
AreSettled words =
    (base : ℕ) → reads_in words (word_at words anchor_slot_place) ≡ Some (InnerAt base)
    → AreSettledFrom words base

-- the row and its slots are in good shape
pub record IsRowInShape (words : List ℕ) (base : ℕ) : Type 0 where
  pub row : IsRowHere words base
  pub slots : (word : ℕ) → Among word (row_slots words base)
      → (visit : Visit) × (visit.word ≡ word) × (visit.node ≡ base) × IsGood words visit

-- each row that is reached from this one is in good shape, with its slots
abbrev pub AreInShapeFrom : List ℕ → ℕ → Type 0
AreInShapeFrom words base = (node : ℕ) → ReachedFrom words base node → IsRowInShape words node
