-- Which rows are the rows of an ideal subtree: a row first, then the rows of each part. Serves
-- `ideals.rt`.
use Rattle.std.proofs.Common.{◌≡◌, ◌∙◌, ◌≤◌, ◌+◌, ℕ, zero, suc, List, [], ◌∷◌, ◌++◌, length, take, drop, get_or, Some, None, refl, sym, ap, subst, arith}
use Rattle.std.proofs.lemmas.List.{nil_from_length}
use Rattle.ist_core.specs.declared.lists.Row.{Row}
use Rattle.ist_core.specs.declared.states.InnerRow.{InnerRow}
use Rattle.ist_core.specs.WordTerms.{Ref, Empty, LeafAt, InnerAt, ref_of, parts}
use Rattle.ist_core.specs.TreeTerms.{PlacedLeaf}
use Rattle.ist_core.proofs.AllWordLemmas.{same_value}
use Rattle.check_fairness.proofs.AnswerLemmas.{following, split_first}
use Rattle.check_builds.specs.Built.{IsTopRow, BuildsRef, builds_none, builds_one, builds_more, BuildsAll, BuildsAt, CountsRows, HasTopSlots}

-- ---- what a subtree is by the number of its leaves

-- a list of length 1 is its first element
pub one_list : {A : Type 0} (xs : List A) (x : A) → length xs ≡ 1 → x ≡ get_or xs 0 x → xs ≡ x ∷ []
one_list [] x h e = absurd (omega arith)
one_list (y ∷ []) x h e = ap (λ z. z ∷ []) (sym e)
one_list (y ∷ z ∷ xs) x h e = absurd (omega arith)

none_inverted : (ref : Ref) (leaves : List PlacedLeaf) (above : ℕ) (rows : List Row)
    → BuildsRef ref leaves above rows → leaves ≡ [] → (ref ≡ Empty) × (rows ≡ [])
none_inverted _ _ _ _ builds_none e = (refl, refl)
none_inverted _ _ _ _ (builds_one same) e = absurd (cc)
none_inverted _ leaves _ _ (builds_more r top below) e = grind arith

one_inverted : (ref : Ref) (leaves : List PlacedLeaf) (above : ℕ) (rows : List Row)
    (leaf : PlacedLeaf)
    → BuildsRef ref leaves above rows → leaves ≡ leaf ∷ [] → (ref ≡ LeafAt leaf.base) × (rows ≡ [])
one_inverted _ _ _ _ leaf builds_none e = absurd (cc)
one_inverted _ _ _ _ leaf (builds_one {leaf = other} same) e = grind arith
one_inverted _ leaves _ _ leaf (builds_more r top below) e = grind arith

-- a subtree of two leaves or more: its top row, and the rows of its parts
record IsMany (ref : Ref) (leaves : List PlacedLeaf) (above : ℕ) (rows : List Row) : Type 0 where
  row : Row
  rest : List Row
  top : InnerRow
  ref_is : ref ≡ InnerAt row.base
  rows_are : rows ≡ row ∷ rest
  is_top : IsTopRow row top leaves above
  below : BuildsAll top.slots (parts leaves) row.base rest

many_inverted : (ref : Ref) (leaves : List PlacedLeaf) (above : ℕ) (rows : List Row)
    → BuildsRef ref leaves above rows → 2 ≤ length leaves → IsMany ref leaves above rows
many_inverted _ _ _ _ builds_none two = absurd (omega arith)
many_inverted _ _ _ _ (builds_one same) two = absurd (omega arith)
many_inverted _ _ _ _ (builds_more {row = row} {rows = rows} r top below) two = grind arith

-- ---- no leaf, or one

-- some elements and then some more
pub both_taken : {A : Type 0} (xs : List A) (a b : ℕ) → take (a + b) xs ≡ take a xs ++ take b
    (drop a xs)
both_taken xs zero b = ap (λ n. take n xs) (let e : zero + b ≡ b = omega arith in e)
both_taken [] (suc a) b = ap (λ n. take n []) (let e : suc a + b ≡ suc (a + b) = omega arith in e)
    ∙ none b
  where
    none : {A : Type 0} (n : ℕ) → ◌≡◌ {A = List A} [] (take n [])
    none zero = refl
    none (suc n) = refl
both_taken (x ∷ xs) (suc a) b = ap (λ n. take n (x ∷ xs)) (let e : suc a + b ≡ suc (a + b) = omega
    arith in e) ∙ ap (λ ys. x ∷ ys) (both_taken xs a b)

module _ (word : ℕ) (leaves : List PlacedLeaf) (above : ℕ) (rows : List Row) where
  abbrev BuildsHere : List Row → Type 0
  BuildsHere rs = BuildsAt word leaves above rs

  -- without leaves an empty word uses no row
  pub counts_none : length leaves ≡ 0 → ref_of word ≡ Some Empty → CountsRows BuildsHere rows
      (Some 0)
  counts_none h e = (
    record {
      ref = Empty;
      names = e;
      builds = subst (λ xs. BuildsRef Empty xs above [])
          (sym (nil_from_length leaves h)) builds_none;
    },
    λ used rest is b. ap length (none_inverted b.ref leaves above used b.builds
        (nil_from_length leaves h)).1,
  )

  -- a word of the one leaf uses no row
  pub counts_one : (leaf : PlacedLeaf) → length leaves ≡ 1 → leaf ≡ get_or leaves 0 leaf
      → ref_of word ≡ Some (LeafAt leaf.base) → CountsRows BuildsHere rows (Some 0)
  counts_one leaf h at e = (
    record {
      ref = LeafAt leaf.base;
      names = e;
      builds = subst (λ xs. BuildsRef (LeafAt leaf.base) xs
          above []) (sym (one_list leaves leaf h at)) (builds_one refl);
    },
    λ used rest is b. ap length (one_inverted b.ref leaves above used leaf b.builds
        (one_list leaves leaf h at)).1,
  )

  -- ---- two or more

  module _ (row : Row) (base : ℕ) (two : 2 ≤ length leaves) (long : 1 ≤ length rows)
      (at : row ≡ get_or rows 0 row) (names : ref_of word ≡ Some (InnerAt base)) where
    -- the first of the rows is the one that the word names, and the others follow
    first_is : (used rest : List Row) → rows ≡ used ++ rest → (b : BuildsAt word leaves above used)
        → (it : IsMany b.ref leaves above used)
        → (it.row ≡ row) × (base ≡ it.row.base) × (following rows ≡ it.rest ++ rest)
    first_is used rest is b it = grind (arith, following, split_first, same_value)

    -- if the first row isn't the top row, there is no subtree
    pub counts_no_top : ((slots : List ℕ) → ¬ (HasTopSlots row leaves above slots))
        → CountsRows BuildsHere rows None
    counts_no_top none used rest is b =
        let it = many_inverted b.ref leaves above used b.builds two in
        let first = first_is used rest is b it in
        none it.top.slots (subst (λ x. HasTopSlots x leaves above it.top.slots) first.0 record
        { top = it.top; is_top = it.is_top; slots_are = refl })

    module _ (slots : List ℕ) (top : HasTopSlots row leaves above slots) where
      -- the slots of the top row are those that were read
      below_is : (it_row : Row) (r : InnerRow) (rest : List Row) → it_row ≡ row → base ≡ it_row.base
          → IsTopRow it_row r leaves above → BuildsAll r.slots (parts leaves) it_row.base rest
          → BuildsAll slots (parts leaves) base rest
      below_is it_row r rest same here is_top below = grind arith

      -- if the parts aren't built, there is no subtree
      pub counts_no_parts : CountsRows (λ rs. BuildsAll slots (parts leaves) base rs) (following rows)
          None → CountsRows BuildsHere rows None
      counts_no_parts none used rest is b =
          let it = many_inverted b.ref leaves above used b.builds two in
          let first = first_is used rest is b it in
          none it.rest rest first.2 (below_is it.row it.top it.rest first.0 first.1 it.is_top
          it.below)

      -- if the parts use k rows, the subtree uses k + 1
      pub counts_parts : (k : ℕ) → row.base ≡ base
          → CountsRows (λ rs. BuildsAll slots (parts leaves) base rs) (following rows) (Some k)
          → CountsRows BuildsHere rows (Some (k + 1))
      counts_parts k here some = (
        record {
          ref = InnerAt row.base;
          names = names ∙ ap (λ n. Some (InnerAt n)) (sym here);
          builds = subst (λ rs. BuildsRef (InnerAt row.base) leaves above rs) (sym taken)
              (builds_more top.top top.is_top
              (subst (λ ws. BuildsAll ws (parts leaves) row.base (take k (following rows)))
              (sym top.slots_are) (subst (λ n. BuildsAll slots (parts leaves) n
              (take k (following rows))) (sym here) some.0)));
        },
        λ used rest is b. let it = many_inverted b.ref leaves above used b.builds two in
            let first = first_is used rest is b it in
            let same = some.1 it.rest rest first.2 (below_is it.row it.top it.rest first.0 first.1
            it.is_top it.below) in
            let one = ap length it.rows_are in omega arith,
      )
        where
          taken : take (k + 1) rows ≡ row ∷ take k (following rows)
          taken = grind (arith, split_first, following)
