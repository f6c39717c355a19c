-- Rows that hang in or below a slot, as a walk down reaches them. Serves `linking.rt`.
use Rattle.std.proofs.Common.{◌≡◌, ◌≢◌, ◌↔◌, ◌∙◌, ◌⊎◌, ℕ, zero, suc, List, [], ◌∷◌, slice_get, slice_index_or, length, ◌<◌, Option, Some, None, refl, sym, subst, arith}
use Rattle.std.specs.BTreeMap as tree
use Rattle.ist_core.specs.declared.states.InnerRow.{InnerRow}
use Rattle.ist_core.specs.WordTerms.{anchor, Ref, InnerAt, Pieces, Inner, SlotHolds, in_anchor, in_row, logical}
use Rattle.ist_core.specs.LogTerms.{Snapshot}
use Rattle.ist_core.specs.TreeTerms.{IsChild, Linked, below, HasLeaves, row_here, no_slot}
use Rattle.ist_core.proofs.AllPlaceLemmas.{no_row, slot_once}
use Rattle.ist_core.proofs.AllWordLemmas.{same_inner}
use Rattle.check_builds.specs.Reading.{IsReadingOf}
use Rattle.check_builds.specs.declared.readings.SlotReading.{SlotReading}
use Rattle.check_builds.specs.declared.readings.SlotReading.TheVariants.{Nothing, OneLeaf, OneRow, Other}
use Rattle.check_state.specs.Hanging.{Hangs, hangs_here, hangs_below}
use Rattle.check_events.proofs.KindLemmas.{one_target}

-- a place below the end has a word
stands_at : (xs : List ℕ) (i : ℕ) → i < length xs → slice_get xs i ≡ Some (slice_index_or xs i 0)
stands_at [] i low = absurd (omega arith)
stands_at (x ∷ xs) zero low = refl
stands_at (x ∷ xs) (suc i) low = stands_at xs i (omega arith)

-- the word at a place below the end is the slot's word
pub word_at : (words slots : List ℕ) (i : ℕ) → words ≡ slots → i < length words
    → slice_get slots i ≡ Some (slice_index_or words i 0)
word_at words slots i e low = grind (arith, stands_at)

-- ---- at one moment

module _ (t : Snapshot) where
  -- what hangs is a logical child
  pub hangs_child : (node i under j child : ℕ) → Hangs t node i under j child
      → IsChild t under j child
  hangs_child _ _ _ _ _ (hangs_here c) = c
  hangs_child _ _ under j child (hangs_below row k c h) = hangs_child row k under j child h

  -- what hangs in or below a slot of a linked node hangs below linked nodes
  pub hangs_linked : (node i under j child : ℕ) → Linked t node → Hangs t node i under j child
      → Linked t under
  hangs_linked _ _ _ _ _ l (hangs_here c) = l
  hangs_linked node i under j child l (hangs_below row k c h) =
      hangs_linked row k under j child (below i l c) h

  -- a child of what hangs hangs there too
  pub hangs_on : (node i under j row k child : ℕ) → Hangs t node i under j row
      → IsChild t row k child → Hangs t node i row k child
  hangs_on node i _ _ row k child (hangs_here c) d = hangs_below row k c (hangs_here d)
  hangs_on node i under j row k child (hangs_below at m c h) d =
      hangs_below at m c (hangs_on at m under j row k child h d)

  -- nothing hangs in or below a slot without a child
  pub hangs_nowhere : (node i under j child : ℕ) → ((row : ℕ) → ¬ (IsChild t node i row))
      → ¬ (Hangs t node i under j child)
  hangs_nowhere _ _ _ _ child none (hangs_here c) = none child c
  hangs_nowhere _ _ _ _ _ none (hangs_below row k c h) = none row c

  module _ (free : t.pieces anchor ≡ None) where
    -- a slot reads as what any of its words reads as
    pub child_at : (node i word child : ℕ) → SlotHolds t node i word → IsChild t node i child
        → logical t.pieces word ≡ Some (InnerAt child)
    child_at node i word child h c = grind (arith, slot_once)

    -- a slot has one child
    pub one_child : (node i a b : ℕ) → IsChild t node i a → IsChild t node i b → a ≡ b
    one_child node i a b c d = grind (arith, one_target, child_at)

    -- what hangs in or below a slot is its child there, or hangs in or below a slot of the child
    pub hangs_split : (node i row under j child : ℕ) → IsChild t node i row
        → Hangs t node i under j child
        → ((under ≡ node) × (j ≡ i) × (child ≡ row)) ⊎ ((k : ℕ) × Hangs t row k under j child)
    hangs_split node i row _ _ child c (hangs_here d) = grind (arith, one_child)
    hangs_split node i row under j child c (hangs_below at k d h) = grind (arith, one_child)

    -- a slot of an inner row holds its word
    holds_word : (node i word : ℕ) (r : InnerRow) → t.pieces node ≡ Some (Inner r)
        → SlotHolds t node i word → slice_get r.slots i ≡ Some word
    holds_word node i word r e (in_anchor a b f) = absurd (no_row t.pieces node r free a e)
    holds_word node i word r e (in_row s p g) = grind (arith, same_inner)

    -- a row hangs in a slot if the word of the slot reads as it
    pub child_by_word : (node i word child : ℕ) (r : InnerRow) → t.pieces node ≡ Some (Inner r)
        → slice_get r.slots i ≡ Some word
        → IsChild t node i child ↔ (logical t.pieces word ≡ Some (InnerAt child))
    child_by_word node i word child r e g = (
      (λ c. child_at node i word child (in_row r e g) c),
      (λ reads. record { word = word; holds = in_row r e g; reads = reads }),
    )

    -- and its slot is one of the row
    pub child_within : (node i child : ℕ) (r : InnerRow) → t.pieces node ≡ Some (Inner r)
        → IsChild t node i child → (word : ℕ) × (slice_get r.slots i ≡ Some word)
    child_within node i child r e c = (c.word, holds_word node i c.word r e c.holds)

  -- what hangs in or below a slot hangs there, or below a row that hangs there
  pub first_child : (node i under j child : ℕ) → Hangs t node i under j child
      → (row : ℕ) × IsChild t node i row
  first_child _ _ _ _ child (hangs_here c) = (child, c)
  first_child _ _ _ _ _ (hangs_below row k c h) = (row, c)

-- ---- readings

-- what has no leaves in any table isn't an inner row
pub other_reading : (o : Option Ref) (child : ℕ) → IsReadingOf Other o → o ≢ Some (InnerAt child)
other_reading o child none e =
    none all [] (subst (λ r. HasLeaves all r []) (sym e) (row_here empty refl no_slot))
  where
    empty : InnerRow
    empty = record { status = 0; count = 0; degree = 0; size = 0; keys = []; slots = [] }

    all : Pieces
    all = λ base. Some (Inner empty)

-- a reading that is no inner row
pub no_row_read : (read : SlotReading) (o : Option Ref) (child : ℕ) → ((base : ℕ) → read ≢ OneRow base)
    → IsReadingOf read o → o ≢ Some (InnerAt child)
no_row_read Nothing o child other is e = let k = sym is ∙ e in cc
no_row_read (OneLeaf base) o child other is e = let k = sym is ∙ e in cc
no_row_read (OneRow base) o child other is e = absurd (other base refl)
no_row_read Other o child other is e = other_reading o child is e
