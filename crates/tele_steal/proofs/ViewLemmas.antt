-- One tally among those of all passes. Serves the rule over the deque and its passes.
use Rattle.std.proofs.Common.{◌≡◌, ℕ, zero, suc, ◌+◌, ◌<◌, List, [], ◌∷◌, ◌++◌, length, set, sum_by, flat_map, All, IsPermutation, sym, refl, ap, ◌∙◌, subst, arith}
use mathlib.Core.Option.{some, some-ne-none, some-injective}
use lib.ListN.{get_elem?}
use Rattle.std.proofs.lemmas.List.Sums.{sum_by-cons}
use Rattle.std.proofs.lemmas.List.Elements.{All-head, All-tail}
use Rattle.std.proofs.lemmas.List.Sorted.{IsPermutation-refl, IsPermutation-trans, IsPermutation-append_right}
use Rattle.tele_steal.proofs.ShuffleLemmas.{second_first}

module _ {X : Type 0} where
  -- an element of a list has a place within it
  pub seat_within : (l : List X) (i : ℕ) (u : X) → get_elem? l i ≡ some u → i < length l
  seat_within [] i u e = absurd (some-ne-none u (sym e))
  seat_within (x ∷ xs) zero u e = omega arith
  seat_within (x ∷ xs) (suc i) u e = let h = seat_within xs i u e in omega arith

  -- a sum after one element was replaced
  pub sum_by-seat : (f : X → ℕ) (l : List X) (i : ℕ) (u w : X) → get_elem? l i ≡ some u
      → sum_by f (set l i w) + f u ≡ sum_by f l + f w
  sum_by-seat f [] i u w e = absurd (some-ne-none u (sym e))
  sum_by-seat f (x ∷ xs) zero u w e = grind (arith, sum_by-cons)
  sum_by-seat f (x ∷ xs) (suc i) u w e = let h = sum_by-seat f xs i u w e in
      let old = sum_by-cons f x xs in let new =
      sum_by-cons f x (set xs i w) in omega (arith, h, old, new)

  -- an element is replaced by one of which f makes the same
  pub flat_map-seat : {Y : Type 0} (f : X → List Y) (l : List X) (i : ℕ) (u w : X)
      → get_elem? l i ≡ some u → f w ≡ f u → flat_map f (set l i w) ≡ flat_map f l
  flat_map-seat f [] i u w e same = absurd (some-ne-none u (sym e))
  flat_map-seat f (x ∷ xs) zero u w e same = grind arith
  flat_map-seat f (x ∷ xs) (suc i) u w e same = ap (λ z. f x ++ z) (flat_map-seat f xs i u w e same)

  -- what f makes of one element and of all others, whatever replaces the one
  pub record Others {Y : Type 0} (f : X → List Y) (l : List X) (i : ℕ) (u : X) : Type 0 where
    pub rest : List Y
    pub before : IsPermutation (flat_map f l) (f u ++ rest)
    -- with another element in place of the one, it is what f makes of that one and this
    pub after : (w : X) → IsPermutation (flat_map f (set l i w)) (f w ++ rest)

  -- each element has such others
  pub others : {Y : Type 0} (f : X → List Y) (l : List X) (i : ℕ) (u : X) → get_elem? l i ≡ some u
      → Others f l i u
  others f [] i u e = absurd (some-ne-none u (sym e))
  others f (x ∷ xs) zero u e = record {
    rest = flat_map f xs;
    before = subst (λ z. IsPermutation (f x ++ flat_map f xs) (f z ++ flat_map f xs))
        (some-injective x u e) (IsPermutation-refl (f x ++ flat_map f xs));
    after = λ w. IsPermutation-refl (f w ++ flat_map f xs);
  }
  others f (x ∷ xs) (suc i) u e = let o = others f xs i u e in record {
    rest = f x ++ o.rest;
    before = IsPermutation-trans (f x ++ flat_map f xs) (f x ++ (f u ++ o.rest))
        (f u ++ (f x ++ o.rest))
        (IsPermutation-append_right (f x) (flat_map f xs) (f u ++ o.rest) o.before)
        (second_first (f x) (f u) o.rest);
    after = λ w. IsPermutation-trans (f x ++ flat_map f (set xs i w)) (f x ++ (f w ++ o.rest))
        (f w ++ (f x ++ o.rest))
        (IsPermutation-append_right (f x) (flat_map f (set xs i w)) (f w ++ o.rest) (o.after w))
        (second_first (f x) (f w) o.rest);
  }

  -- a list of one element has nothing after its first place
  pub seat_last : (x u : X) (j : ℕ) → get_elem? (x ∷ []) j ≡ some u → j ≡ 0
  seat_last x u zero e = refl
  seat_last x u (suc j) e = absurd (some-ne-none u (sym e))

  -- if no element counts, and those that don't count make nothing, nothing is made
  pub flat_map-none : {Y : Type 0} (f : X → List Y) (n : X → ℕ) (l : List X) → sum_by n l ≡ 0
      → All (λ u. n u ≡ 0 → f u ≡ []) l → flat_map f l ≡ []
  flat_map-none f n [] none idle = refl
  flat_map-none f n (x ∷ xs) none idle = let sum = sum_by-cons n x xs in
      let head = All-head (λ u. n u ≡ 0 → f u ≡ []) x xs idle (omega (arith, sum, none)) in
      let tail = flat_map-none f n xs (omega (arith, sum, none))
      (All-tail (λ u. n u ≡ 0 → f u ≡ []) x xs idle) in
      ap (λ z. z ++ flat_map f xs) head ∙ tail
