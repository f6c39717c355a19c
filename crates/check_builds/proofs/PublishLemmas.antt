-- The rows of a Root or a Place, published, are those that the words say. Serves `building.rt`.
use Rattle.std.proofs.Common.{◌≡◌, ◌∙◌, ◌<◌, ℕ, List, [], ◌∷◌, ◌++◌, length, Option, Some, None, refl, sym, ap, subst, inl, inr, arith}
use Rattle.ist_core.specs.declared.lists.Row.{Row}
use Rattle.ist_core.specs.WordTerms.{part_lens, Ref, InnerAt, parts, Pieces, Piece, Leaf, Inner, inner_of, with_row, with_inners, logical, IsIdeal, AreIdeal, of_none, of_one, of_more, no_part, one_part}
use Rattle.ist_core.specs.LogTerms.{Among, Each, Distinct, Snapshot, bases_of, HoldsRow, HoldsRows}
use Rattle.ist_core.specs.TreeTerms.{PlacedLeaf, HasLeaves, SlotsHaveLeaves, none_here, leaf_here, row_here, no_slot, one_slot}
use Rattle.ist_core.proofs.AllWordLemmas.{each_append, each-append, each-among, with_row-same, with_row-other, with_inners-other}
use Rattle.ist_core.proofs.AllPlaceLemmas.{each_of_cut}
use Rattle.ist_core.proofs.AllEventLemmas.{row_among}
use Rattle.check_builds.specs.HeldRows.{HeldAreFree}
use Rattle.check_builds.specs.Built.{key_of_leaf, BuildsRef, builds_none, builds_one, builds_more, BuildsAll, builds_end, builds_part}

-- ---- rows that are published

-- the row is published as its words say
abbrev pub StandsAsSaid : Pieces → Row → Type 0
StandsAsSaid qs row = qs row.base ≡ inner_of row.words

-- the leaf is published
abbrev pub LeafStands : Pieces → PlacedLeaf → Type 0
LeafStands ps leaf = ps leaf.base ≡ Some (Leaf leaf.row)

-- no row is published where one is held
pub held_is_free : (t : Snapshot) (caller : ℕ) (rows : List Row) → HoldsRows t caller rows
    → HeldAreFree t → (base : ℕ) → Among base (bases_of rows) → t.pieces base ≡ None
held_is_free t caller rows held free base i = let it = row_among base rows i in
    subst (λ b. t.pieces b ≡ None) it.2
    (free record { caller = caller; base = it.0.base; size = length it.0.words }
    (each-among (λ x. HoldsRow t caller x.base (length x.words)) it.0 rows held it.1))

-- a published leaf is still published after rows were
pub leaf_kept : (t : Snapshot) (caller : ℕ) (rows : List Row) → HoldsRows t caller rows
    → HeldAreFree t
    → (leaf : PlacedLeaf) → LeafStands t.pieces leaf → LeafStands (with_inners t.pieces rows) leaf
leaf_kept t caller rows held free leaf e = grind (arith, with_inners-other, held_is_free)

-- each row of them is published
pub rows_stand : (ps : Pieces) (rows : List Row) → Distinct (bases_of rows)
    → ((base : ℕ) → Among base (bases_of rows) → ps base ≡ None)
    → Each (StandsAsSaid (with_inners ps rows)) rows
rows_stand ps [] once free = tt
rows_stand ps (row ∷ rows) once free = (
  here (inner_of row.words) refl,
  there rows (rows_stand ps rows once.1 (λ base i. free base (inr i))) (λ base i. i),
)
  where
    here : (o : Option Piece) → inner_of row.words ≡ o → with_row (with_inners ps rows) row.base
        (inner_of row.words) row.base ≡ inner_of row.words
    here (Some p) e = grind (arith, with_row-same)
    here None e = subst (λ x. with_row (with_inners ps rows) row.base x row.base ≡ x) (sym e)
        (with_inners-other ps rows row.base once.0 ∙ free row.base (inl refl))

    there : (more : List Row) → Each (StandsAsSaid (with_inners ps rows)) more
        → ((base : ℕ) → Among base (bases_of more) → Among base (bases_of rows))
        → Each (StandsAsSaid (with_row (with_inners ps rows) row.base (inner_of row.words))) more
    there [] h k = tt
    there (x ∷ xs) h k = (
      with_row-other (with_inners ps rows) row.base x.base (inner_of row.words)
          (λ e. once.0 (subst (λ b. Among b (bases_of rows)) e (k x.base (inl refl)))) ∙ h.0,
      there xs h.1 (λ base i. k base (inr i)),
    )

-- ---- the leaves below a row are published

module _ (ps : Pieces) where
  mutual
    -- the leaves below a reference are published
    pub leaves_stand : (ref : Option Ref) (leaves : List PlacedLeaf) → HasLeaves ps ref leaves
        → Each (LeafStands ps) leaves
    leaves_stand _ _ none_here = tt
    leaves_stand _ _ (leaf_here r e) = (e, tt)
    leaves_stand _ leaves (row_here r e below) = slots_stand r.slots leaves below

    slots_stand : (words : List ℕ) (leaves : List PlacedLeaf) → SlotsHaveLeaves ps words leaves
        → Each (LeafStands ps) leaves
    slots_stand _ _ no_slot = tt
    slots_stand _ _ (one_slot {word = word} {words = words} {here = here} {rest = rest} first more)
        =
        each_append (LeafStands ps) here rest (leaves_stand (logical ps word) here first)
        (slots_stand words rest more)

-- ---- ideal subtrees, by rows and by bases

-- the bases of some rows and of others
pub bases-append : (xs ys : List Row) → bases_of (xs ++ ys) ≡ bases_of xs ++ bases_of ys
bases-append [] ys = refl
bases-append (x ∷ xs) ys = ap (λ bs. x.base ∷ bs) (bases-append xs ys)

-- if the bases of some rows are two lists, the rows are two lists with these bases
split_bases : (xs ys : List ℕ) (rows : List Row) → xs ++ ys ≡ bases_of rows
    → (a : List Row) × (b : List Row) × (rows ≡ a ++ b) × (xs ≡ bases_of a) × (ys ≡ bases_of b)
split_bases [] ys rows e = ([], rows, refl, refl, e)
split_bases (x ∷ xs) ys [] e = absurd (cc)
split_bases (x ∷ xs) ys (row ∷ rows) e = let tail : xs ++ ys ≡ bases_of rows = cc in
    let head : x ≡ row.base = cc in
    let it = split_bases xs ys rows tail in (
      row ∷ it.0,
      it.1,
      ap (λ rs. row ∷ rs) it.2,
      ap (λ b. b ∷ xs) head ∙ ap (λ bs. row.base ∷ bs)
          it.3,
      it.4,
    )

module _ (qs : Pieces) where
  mutual
    -- rows that are built and published are an ideal subtree
    pub builds_ideal : (ref : Ref) (leaves : List PlacedLeaf) (above : ℕ) (rows : List Row)
        → BuildsRef ref leaves above rows → Each (StandsAsSaid qs) rows → Each (LeafStands qs) leaves
        → IsIdeal qs ref leaves above (bases_of rows)
    builds_ideal _ _ _ _ builds_none stand there = of_none
    builds_ideal _ _ _ _ (builds_one {base = base} {leaf = leaf} same) stand there = of_one same
        (subst (λ b. qs b ≡ Some (Leaf leaf.row)) same there.0)
    builds_ideal _ leaves above _ (builds_more {row = row} {rows = rows} r top below) stand there =
        of_more r
        record {
          published = stand.0 ∙ top.read;
          two = top.two;
          higher = top.higher;
          status = top.status;
          count = top.count;
          degree = top.degree;
          size = top.size;
          keys = top.keys;
        }
        (all_ideal r.slots (parts leaves) row.base rows below stand.1
        (each_of_cut key_of_leaf (LeafStands qs) (part_lens (length leaves)) leaves there))

    all_ideal : (words : List ℕ) (ps : List (List PlacedLeaf)) (above : ℕ) (rows : List Row)
        → BuildsAll words ps above rows → Each (StandsAsSaid qs) rows
        → Each (λ part. Each (LeafStands qs) part) ps → AreIdeal qs words ps above (bases_of rows)
    all_ideal _ _ _ _ builds_end stand there = no_part
    all_ideal _ _ above _ (builds_part {word = word} {words = words} {part = part} {following = following}
        {here = here} {rest = rest} ref e first more) stand there =
        let both = each-append (StandsAsSaid qs) here rest stand in
        subst (λ bs. AreIdeal qs (word ∷ words) (part ∷ following) above bs)
        (sym (bases-append here rest))
        (one_part ref e (builds_ideal ref part above here first both.0 there.0)
        (all_ideal words following above rest more both.1 there.1))

  mutual
    -- an ideal subtree of published rows is built by them
    pub ideal_builds : (ref : Ref) (leaves : List PlacedLeaf) (above : ℕ) (bases : List ℕ)
        → IsIdeal qs ref leaves above bases → (rows : List Row) → bases ≡ bases_of rows
        → Each (StandsAsSaid qs) rows → BuildsRef ref leaves above rows
    ideal_builds _ _ above _ of_none [] e stand = builds_none
    ideal_builds _ _ above _ of_none (row ∷ rows) e stand = absurd (cc)
    ideal_builds _ _ above _ (of_one same f) [] e stand = builds_one same
    ideal_builds _ _ above _ (of_one same f) (row ∷ rows) e stand = absurd (cc)
    ideal_builds _ leaves above _ (of_more r top below) [] e stand = absurd (cc)
    ideal_builds _ leaves above _ (of_more {base = base} {rows = bases} r top below) (row ∷ rows) e
        stand =
        let here : base ≡ row.base = cc in let tail : bases ≡ bases_of rows = cc in
        subst (λ b. BuildsRef (InnerAt b) leaves above (row ∷ rows)) (sym here)
        (builds_more r
        record {
          read = sym stand.0 ∙ subst (λ b. qs b ≡ Some (Inner r)) here top.published;
          two = top.two;
          higher = subst (λ b. above < b) here top.higher;
          status = top.status;
          count = top.count;
          degree = top.degree;
          size = top.size;
          keys = top.keys;
        }
        (subst (λ b. BuildsAll r.slots (parts leaves) b rows) here
        (all_builds r.slots (parts leaves) base bases below rows tail stand.1)))

    all_builds : (words : List ℕ) (ps : List (List PlacedLeaf)) (above : ℕ) (bases : List ℕ)
        → AreIdeal qs words ps above bases → (rows : List Row) → bases ≡ bases_of rows
        → Each (StandsAsSaid qs) rows → BuildsAll words ps above rows
    all_builds _ _ above _ no_part [] e stand = builds_end
    all_builds _ _ above _ no_part (row ∷ rows) e stand = absurd (cc)
    all_builds _ _ above _ (one_part {word = word} {words = words} {here = here} {rest = rest}
        {part = part} {following = following} ref f first more) rows e stand =
        let it = split_bases here rest rows e in
        let both = each-append (StandsAsSaid qs) it.0 it.1 (subst (λ rs. Each (StandsAsSaid qs) rs) it.2 stand)
        in
        subst (λ rs. BuildsAll (word ∷ words) (part ∷ following) above rs) (sym it.2)
        (builds_part ref f (ideal_builds ref part above here first it.0 it.3 both.0)
        (all_builds words following above rest more it.1 it.4 both.1))
