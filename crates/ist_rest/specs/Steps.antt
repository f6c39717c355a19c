-- What the steps of a listing promise each other.
use Rattle.std.specs.Prelude.{◌≡◌, ℕ, zero, suc, ◌+◌, ◌-◌, ◌≤◌, List, [], ◌∷◌, ◌++◌, length, map, slice_range, Option, Some, None}
use Rattle.std.specs.List.{sum_by}
use Rattle.ist_core.specs.declared.pairs.Pair.{Pair}
use Rattle.ist_core.specs.Arithmetic.{child_count}
use Rattle.ist_core.specs.Map.{pairs_between}
use Rattle.ist_core.specs.References.{Ref, InnerAt}
use Rattle.ist_rest.specs.declared.slots.SlotLeft.{SlotLeft}
use Rattle.std.specs.List.Sorted.{IsStrictlyIncreasing}
use Rattle.ist_core.specs.RowLayout.{inner_words}
use Rattle.ist_rest.specs.WordRows.{row_degree, row_keys, row_slots, reads_in, Span, IsWithinUsed}
use Rattle.ist_rest.specs.Walks.{Visit, IsGood, pairs_read, Walks}

-- ---- the work that is left: a number that decreases with each slot

-- the slots of the row that a word reads as
abbrev pub slots_at : List ℕ → Option Ref → List ℕ
slots_at words (Some (InnerAt base)) = row_slots words base
slots_at words _ = []

-- how many slots are visited from a word on, down to this many levels
unfoldable pub work : List ℕ → ℕ → ℕ → ℕ
work words zero word = 1
work words (suc levels) word =
    suc (sum_by (work words levels) (slots_at words (reads_in words word)))

-- the work of a slot; bases increase on the way down, so there are at most as many levels below a
-- node as words after its base
abbrev pub work_of : List ℕ → SlotLeft → ℕ
work_of words slot = work words (length words - slot.node) slot.word

-- the work below some slots
abbrev pub work_left : List ℕ → List SlotLeft → ℕ
work_left words slots = sum_by (work_of words) slots

-- ---- the interval

-- the slot of a visit
abbrev pub slot_of : Visit → SlotLeft
slot_of visit = record { word = visit.word; node = visit.node }

-- these slots hold these pairs of the interval
pub data GiveBetween (words : List ℕ) (first last : ℕ) : List SlotLeft → List Pair → Type 0 where
  no_slot : GiveBetween words first last [] []
  one_slot : {slots : List SlotLeft} {rows : List Span} {pairs rest : List Pair} (visit : Visit)
      → Walks words (visit ∷ []) rows pairs → GiveBetween words first last slots rest
      → GiveBetween words first last (slot_of visit ∷ slots) (pairs_between first last pairs ++
      rest)

-- the slots with these words, of one node
abbrev pub slots_of : ℕ → List ℕ → List SlotLeft
slots_of base words = map (λ word. record { word = word; node = base }) words

-- the slots of a row in which keys of the interval lie
abbrev pub slots_between : List ℕ → ℕ → ℕ → Option Ref → List SlotLeft
slots_between words first last (Some (InnerAt base)) =
    let from = child_count (row_keys words base) first in
    let to = child_count (row_keys words base) last + 1 in
    slots_of base (slice_range (row_slots words base) from to)
slots_between words first last _ = []

-- the pairs of the interval that a slot reads as
abbrev pub pairs_at : List ℕ → ℕ → ℕ → Option Ref → List Pair
pairs_at words first last (Some ref) = pairs_between first last (pairs_read words ref)
pairs_at words first last None = []

-- the slot belongs to a visit in good shape
pub record IsGoodSlot (words : List ℕ) (slot : SlotLeft) : Type 0 where
  pub visit : Visit
  pub slot_is : slot_of visit ≡ slot
  pub good : IsGood words visit

-- an inner row in good shape is at this base
pub record IsRowHere (words : List ℕ) (base : ℕ) : Type 0 where
  pub within : IsWithinUsed words record { base = base; size = inner_words (row_degree words base) }
  pub degree : 2 ≤ row_degree words base
  pub keys : IsStrictlyIncreasing (row_keys words base)
