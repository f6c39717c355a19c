-- Contents exist: what has leaves still has some after each event. Serves `laws.updates_alone_change`.
use Rattle.std.proofs.Common.{List, Option, Some, [], ap, arith, length, refl, slice_get, subst, suc, sym, zero, ℕ, ⊎_elim, ◌++◌, ◌∙◌, ◌∷◌, ◌≡◌, ◌⊎◌}
use Rattle.ist_core.specs.declared.states.InnerRow.{InnerRow}
use Rattle.ist_core.specs.declared.states.LeafRow.{LeafRow}
use Rattle.ist_core.specs.TreeTerms.{pair_over, pair_row, HasLeaves, PlacedLeaf, SlotsHaveLeaves, leaf_here, no_slot, none_here, one_slot, row_here}
use Rattle.ist_core.specs.WordTerms.{parts, Inner, Leaf, Pieces, ChangeAt, Empty, InnerAt, IsGoodBase, LeafAt, RebuildAt, Ref, Unset, word_of, logical, past_change, past_rebuild}
use Rattle.ist_core.proofs.AllWordLemmas.{ref_of-word_of, same_inner}
use Rattle.ist_core.proofs.AllPlaceLemmas.{SplitAll, Splits, no_split, one_split, split_leaf, split_none, split_row}

-- ---- some leaves

-- the reference has some leaves
pub record HasSome (ps : Pieces) (ref : Option Ref) : Type 0 where
  pub leaves : List PlacedLeaf
  pub reached : HasLeaves ps ref leaves

-- the slots have some leaves
record SlotsHaveSome (ps : Pieces) (words : List ℕ) : Type 0 where
  leaves : List PlacedLeaf
  reached : SlotsHaveLeaves ps words leaves

-- two slots read alike, or if the first has some leaves, the second has some too
abbrev pub AlikeEnough : Pieces → Pieces → List ℕ → List ℕ → Type 0
AlikeEnough ps qs old new =
    (i w v : ℕ) → slice_get old i ≡ Some w → slice_get new i ≡ Some v → HasSome ps (logical ps w)
    → (logical qs v ≡ logical ps w) ⊎ HasSome qs (logical qs v)

-- each row is also in the second table, with such slots
pub record IsAlikeEnough (ps qs : Pieces) : Type 0 where
  -- a leaf is also in the second table
  pub leaf : (base : ℕ) (r : LeafRow) → ps base ≡ Some (Leaf r) → qs base ≡ Some (Leaf r)
  -- an inner row is also there, with the same number of slots, each of which has leaves if the
  -- first one's has
  pub row : (base : ℕ) (r : InnerRow) → ps base ≡ Some (Inner r)
      → (s : InnerRow) × (qs base ≡ Some (Inner s))
      × (length s.slots ≡ length r.slots) × AlikeEnough ps qs r.slots s.slots

module _ (ps qs : Pieces) (alike : IsAlikeEnough ps qs) where
  mutual
    -- what has leaves in the first table has some in the second
    pub some_move : (ref : Option Ref) (leaves : List PlacedLeaf) → HasLeaves ps ref leaves
        → HasSome qs ref
    some_move _ _ none_here = record { leaves = []; reached = none_here }
    some_move _ _ (leaf_here {base = base} r e) =
        record { leaves = _; reached = leaf_here r (alike.leaf base r e) }
    some_move _ _ (row_here {base = base} {leaves = leaves} r e under) =
        let it = alike.row base r e in
        let below = slots_some r.slots leaves under it.0.slots it.2 it.3 in
        record { leaves = below.leaves; reached = row_here it.0 it.1 below.reached }

    slots_some : (words : List ℕ) (leaves : List PlacedLeaf) → SlotsHaveLeaves ps words leaves
        → (new : List ℕ)
        → length new ≡ length words → AlikeEnough ps qs words new → SlotsHaveSome qs new
    slots_some _ _ no_slot [] long slots = record { leaves = []; reached = no_slot }
    slots_some _ _ no_slot (v ∷ vs) long slots = absurd (omega arith)
    slots_some _ _ (one_slot first more) [] long slots = absurd (omega arith)
    slots_some _ _ (one_slot {word = word} {words = words} {here = here} {rest = rest} first more)
        (v ∷ vs) long slots =
        let moved = some_move (logical ps word) here first in
        let one : HasSome qs (logical qs v) =
        ⊎_elim (λ same. subst (λ o. HasSome qs o) (sym same) moved) (λ anyhow. anyhow) (slots 0 word v refl refl record { leaves = here; reached = first }) in
        let others =
        slots_some words rest more vs (omega arith) (λ i w x at now. slots (suc i) w x at now) in
        record { leaves = one.leaves ++ others.leaves; reached = one_slot one.reached others.reached }

-- ---- trees have leaves

-- a slot among those that have leaves has some
pub slot_some : (ps : Pieces) (words : List ℕ) (leaves : List PlacedLeaf)
    → SlotsHaveLeaves ps words leaves
    → (i word : ℕ) → slice_get words i ≡ Some word → HasSome ps (logical ps word)
slot_some ps _ _ no_slot i word e = absurd (cc)
slot_some ps _ _ (one_slot {word = w} {here = here} first more) zero word e = grind arith
slot_some ps _ _ (one_slot {words = words} {rest = rest} first more) (suc i) word e =
    slot_some ps words rest more i word e

-- a tree over keys reads as itself
pub split_reads : {A : Type 0} (key : A → ℕ) (ps : Pieces) (ref : Ref) (xs : List A) (rows : List ℕ)
    → Splits key ps ref xs rows → past_rebuild ps (past_change ps (Some ref)) ≡ Some ref
split_reads key ps _ _ _ split_none = refl
split_reads key ps _ _ _ (split_leaf r e is) = refl
split_reads key ps _ _ _ (split_row r e two keys under) = refl

module _ {A : Type 0} (key : A → ℕ) (ps : Pieces) where
  mutual
    -- a tree over keys has some leaves
    pub split_some : (ref : Ref) (xs : List A) (rows : List ℕ) → Splits key ps ref xs rows
        → HasSome ps (Some ref)
    split_some _ _ _ split_none = record { leaves = []; reached = none_here }
    split_some _ _ _ (split_leaf r e is) = record { leaves = _; reached = leaf_here r e }
    split_some _ xs _ (split_row {rows = rows} r e two keys under) =
        let below = split_all_some r.slots (parts xs) rows under in
        record { leaves = below.leaves; reached = row_here r e below.reached }

    split_all_some : (words : List ℕ) (following : List (List A)) (rows : List ℕ)
        → SplitAll key ps words following rows → SlotsHaveSome ps words
    split_all_some _ _ _ no_split = record { leaves = []; reached = no_slot }
    split_all_some _ _ _
        (one_split {word = word} {words = words} {here = here} {rest = rest} {part = part} {following = following} ref is first more) =
        let one = split_some ref part here first in
        let others = split_all_some words following rest more in
        let read : logical ps word ≡ Some ref =
        ap (λ o. past_rebuild ps (past_change ps o)) is ∙ split_reads key ps ref part here first in
        record { leaves = one.leaves ++ others.leaves; reached = one_slot (subst (λ o. HasLeaves ps o one.leaves) (sym read) one.reached) others.reached }

-- ---- pair rows, and slots of rows

-- a leaf's word at a good base reads as the leaf
leaf_reads : (ps : Pieces) (base : ℕ) → IsGoodBase base
    → logical ps (word_of (LeafAt base)) ≡ Some (LeafAt base)
leaf_reads ps base good =
    ap (λ o. past_rebuild ps (past_change ps o)) (ref_of-word_of (LeafAt base) good)

-- an inner row over two leaves has them
over_some : (ps : Pieces) (base key left right : ℕ) (l r : LeafRow)
    → ps base ≡ Some (pair_over key left right)
    → IsGoodBase left → IsGoodBase right → ps left ≡ Some (Leaf l) → ps right ≡ Some (Leaf r)
    → HasSome ps (Some (InnerAt base))
over_some ps base key left right l r e one two at_left at_right = record {
  leaves = _;
  reached = row_here _ e
      (one_slot (subst (λ o. HasLeaves ps o (record { base = left; row = l } ∷ [])) (sym (leaf_reads ps left one)) (leaf_here l at_left))
      (one_slot (subst (λ o. HasLeaves ps o (record { base = right; row = r } ∷ [])) (sym (leaf_reads ps right two)) (leaf_here r at_right)) no_slot));
}

-- a pair row over two leaves has them
pub pair_some : (ps : Pieces) (base key leaf other_key other : ℕ) (l r : LeafRow)
    → ps base ≡ Some (pair_row key leaf other_key other)
    → IsGoodBase leaf → IsGoodBase other → ps leaf ≡ Some (Leaf l) → ps other ≡ Some (Leaf r)
    → HasSome ps (Some (InnerAt base))
pair_some ps base key leaf other_key other l r = grind (arith, over_some)

-- a reference that has leaves isn't a rebuild
pub plain_to : (ps : Pieces) (ref : Ref) → HasSome ps (Some ref)
    → past_rebuild ps (Some ref) ≡ Some ref
plain_to ps (RebuildAt base) h = absurd (none h.leaves h.reached)
  where
    none : (leaves : List PlacedLeaf) → HasLeaves ps (Some (RebuildAt base)) leaves → ⊥
    none leaves k = elim k [ ]
plain_to ps Empty h = refl
plain_to ps Unset h = refl
plain_to ps (LeafAt base) h = refl
plain_to ps (InnerAt base) h = refl
plain_to ps (ChangeAt base) h = refl

-- a slot of a row that has leaves has some
pub row_slot : (ps : Pieces) (base : ℕ) (r : InnerRow) → ps base ≡ Some (Inner r)
    → HasSome ps (Some (InnerAt base))
    → (i word : ℕ) → slice_get r.slots i ≡ Some word → HasSome ps (logical ps word)
row_slot ps base r e h i word at = grind (arith, same_inner, slot_some)
