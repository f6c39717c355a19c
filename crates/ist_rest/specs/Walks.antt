-- The walk over the words of a table at rest: from the anchor's slot on, slot by slot, each subtree
-- before the next slot. It is a relation between the slots still to visit and what is found in
-- them.
use Rattle.std.specs.Prelude.{◌≡◌, ℕ, ◌+◌, ◌<◌, ◌≤◌, List, [], ◌∷◌, ◌++◌, Option, Some, is_some, true}
use Rattle.std.specs.List.Sorted.{IsStrictlyIncreasing}
use Rattle.ist_core.specs.declared.pairs.Pair.{Pair}
use Rattle.ist_core.specs.Arithmetic.{child_count}
use Rattle.ist_core.specs.RowLayout.{anchor, anchor_slot_place, inner_words, leaf_words}
use Rattle.ist_core.specs.References.{Ref, Empty, Unset, LeafAt, InnerAt, ChangeAt, RebuildAt, ref_of}
use Rattle.ist_core.specs.Statuses.{status_of}
use Rattle.ist_core.specs.Elements.{Each}
use Rattle.ist_core.specs.Rows.{Apart}
use Rattle.ist_rest.specs.WordRows.{word_at, leaf_key, leaf_value, row_degree, row_size, row_keys, row_slots, reads_in, rows_on, Span, IsWithinUsed}

-- a way through an inner row: its keys, and the number of the slot that was taken
pub record Way : Type 0 where
  pub keys : List ℕ
  pub index : ℕ

-- a slot still to visit: its place, its word, the node that it belongs to, and the ways that led to
-- it, the last first
pub record Visit : Type 0 where
  pub place : ℕ
  pub word : ℕ
  pub node : ℕ
  pub ways : List Way

-- the key leads this way
abbrev pub LeadsBy : ℕ → Way → Type 0
LeadsBy key way = child_count way.keys key ≡ way.index

-- ---- what a slot may hold

-- the decision of a change is known
abbrev pub HasDecision : List ℕ → Option Ref → Type 0
HasDecision words (Some (ChangeAt base)) = word_at words base ≤ 2
HasDecision words ref = Unit {0}

-- the leaf is where its key leads
pub record IsGoodLeaf (words : List ℕ) (visit : Visit) (base : ℕ) : Type 0 where
  pub within : IsWithinUsed words record { base = base; size = leaf_words }
  pub lies : Each (LeadsBy (leaf_key words base)) visit.ways

-- the inner row has a status, a degree, a size and strictly increasing keys, and its base is above
-- the node whose slot led to it
pub record IsGoodRow (words : List ℕ) (node base : ℕ) : Type 0 where
  pub within : IsWithinUsed words record { base = base; size = inner_words (row_degree words base) }
  pub status : is_some (status_of (word_at words base)) ≡ true
  pub degree : 2 ≤ row_degree words base
  pub size : 2 ≤ row_size words base
  pub keys : IsStrictlyIncreasing (row_keys words base)
  pub above : node < base

-- what the slot reads as is in good shape
abbrev pub IsGoodAs : List ℕ → Visit → Ref → Type 0
IsGoodAs words visit Empty = Unit {0}
IsGoodAs words visit Unset = ⊥
IsGoodAs words visit (LeafAt base) = IsGoodLeaf words visit base
IsGoodAs words visit (InnerAt base) = IsGoodRow words visit.node base
IsGoodAs words visit (ChangeAt base) = ⊥
IsGoodAs words visit (RebuildAt base) = ⊥

-- the word reads as this, through rows whose words are in use
pub record Reads (words : List ℕ) (word : ℕ) (ref : Ref) : Type 0 where
  pub decision : HasDecision words (ref_of word)
  pub through : Each (IsWithinUsed words) (rows_on words (ref_of word))
  pub is : reads_in words word ≡ Some ref

-- the slot is in good shape: what it leads through, and what it reads as
pub record IsGood (words : List ℕ) (visit : Visit) : Type 0 where
  pub ref : Ref
  pub reads : Reads words visit.word ref
  pub good : IsGoodAs words visit ref

-- ---- what is found there

-- the row that the slot reads as
abbrev pub row_read : List ℕ → Ref → List Span
row_read words (LeafAt base) = record { base = base; size = leaf_words } ∷ []
row_read words (InnerAt base) = record { base = base; size = inner_words (row_degree words base) }
    ∷ []
row_read words _ = []

-- the rows that are read at the slot, in order
abbrev pub rows_read : List ℕ → Visit → Ref → List Span
rows_read words visit ref = rows_on words (ref_of visit.word) ++ row_read words ref

-- the pairs that are found
abbrev pub pairs_read : List ℕ → Ref → List Pair
pairs_read words (LeafAt base) = record {
  key = leaf_key words base;
  value =
      leaf_value words base;
} ∷ []
pairs_read words _ = []

-- the slots of a row from number i on; the first of them is at the place
abbrev pub visits_from : ℕ → List Way → List ℕ → ℕ → ℕ → List ℕ → List Visit
visits_from node ways keys i place [] = []
visits_from node ways keys i place (word ∷ words) =
    record {
      place = place;
      word = word;
      node = node;
      ways = record { keys = keys; index = i } ∷
          ways;
    }
    ∷ visits_from node ways keys (i + 1) (place + 1) words

-- the slots below
abbrev pub visits_below : List ℕ → Visit → Ref → List Visit
visits_below words visit (InnerAt base) =
    visits_from base visit.ways (row_keys words base) 0 (base + 3 + row_degree words base)
    (row_slots words base)
visits_below words visit _ = []

-- ---- the walk

-- from these slots on the walk reads these rows and finds these pairs, in this order
pub data Walks (words : List ℕ) : List Visit → List Span → List Pair → Type 0 where
  ends : Walks words [] [] []
  goes_on : {visit : Visit} {visits : List Visit} {rows : List Span} {pairs : List Pair}
      (at : IsGood words visit)
      → Walks words (visits_below words visit at.ref ++ visits) rows pairs
      → Walks words (visit ∷ visits) (rows_read words visit at.ref ++ rows)
      (pairs_read words at.ref ++ pairs)

-- the anchor's slot
abbrev pub first_visit : List ℕ → Visit
first_visit words = record {
  place = anchor_slot_place;
  word = word_at words anchor_slot_place;
  node = anchor;
  ways = [];
}

-- the row shares no word with any of the others
abbrev pub IsApartFrom : List Span → Span → Type 0
IsApartFrom others span = Each (λ other. Apart other.base other.size span.base span.size) others

-- each row shares no word with the rows of the first list, nor with one before it
abbrev pub AreApart : List Span → List Span → Type 0
AreApart seen [] = Unit {0}
AreApart seen (span ∷ spans) = IsApartFrom seen span × AreApart (span ∷ seen) spans
