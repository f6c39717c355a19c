-- Lists of lanes. Serves `make_lanes` and `run_tree`.
use Rattle.std.proofs.Common.{◌≡◌, ℕ, zero, suc, ◌+◌, ◌<◌, List, [], ◌∷◌, ◌++◌, length, map, sym, ap, ◌∙◌, arith, All, subst}
use Rattle.std.proofs.lemmas.List.{length-append, length-map, map_push}
use Rattle.std.proofs.lemmas.List.Elements.{All-cons, All-head, All-tail, All-push}
use mathlib.Core.List.{map-id}
use Rattle.std.specs.List.{range_with_len}
use Rattle.std.specs.List.Sorted.{IsStrictlyIncreasing}
use Rattle.ist_tree.specs.CallTerms.{TreeFace, MakerFace}
use Rattle.tele_run.specs.Ends.{TreeLane, IsNew, AreMade}
use Rattle.tele_steal.proofs.OrderLemmas.{IsStrictlyIncreasing-from_0}

-- what holds of each image of one list holds of the same images of another
pub all_same : {A B : Type 0} (P : B → Type 0) (f : A → B) (xs ys : List A) → map f xs ≡ map f ys
    → All (λ y. P (f y)) ys → All (λ x. P (f x)) xs
all_same P f [] ys e h = λ k d lt. absurd (omega arith)
all_same P f (x ∷ xs) [] e h = absurd (cc)
all_same P f (x ∷ xs) (y ∷ ys) e h = let head : f y ≡ f x = cc in
    let tail : map f xs ≡ map f ys = cc in
    All-cons (λ a. P (f a)) x xs (subst P head (All-head (λ a. P (f a)) y ys h))
    (all_same P f xs ys tail (All-tail (λ a. P (f a)) y ys h))

-- if one more is still missing, there are fewer so far than there will be
pub one_to_come : {A B : Type 0} (f : A → B) (xs : List A) (y : B) (ys zs all : List B)
    → map f xs ++ zs ≡ all → zs ≡ y ∷ ys → length xs < length all
one_to_come f xs y ys zs all e is = grind (arith, length-append, length-map)

-- the numbers so far, with the next one
range_push : (from n : ℕ) → range_with_len from (suc n) ≡ range_with_len from n ++ (from + n) ∷ []
range_push from zero = let same : from ≡ from + 0 = omega arith in ap (λ k. k ∷ []) same
range_push from (suc n) = let same : from + 1 + n ≡ from + suc n = omega arith in
    ap (λ ks. from ∷ ks) (range_push (from + 1) n
    ∙ ap (λ k. range_with_len (from + 1) n ++ k ∷ []) same)

-- numbers from 0 on, with the next one
pub numbers_push : {A : Type 0} (f : A → ℕ) (xs : List A) (x : A)
    → map f xs ≡ range_with_len 0 (length xs) → f x ≡ length xs
    → map f (xs ++ x ∷ []) ≡ range_with_len 0 (length (xs ++ x ∷ []))
numbers_push f xs x e is =
    let long : suc (length xs) ≡ length (xs ++ x ∷ [])
    = let both = length-append xs (x ∷ []) in omega arith in
    let place : f x ≡ 0 + length xs = omega arith in map_push f xs x ∙ ap (λ ns. ns ++ f x ∷ []) e
    ∙ ap (λ n. range_with_len 0 (length xs) ++ n ∷ []) place
    ∙ sym (range_push 0 (length xs)) ∙ ap (range_with_len 0) long

-- these numbers are strictly increasing
pub numbers_rise : (ns : List ℕ) (n : ℕ) → ns ≡ range_with_len 0 n → IsStrictlyIncreasing ns
numbers_rise ns n e = subst IsStrictlyIncreasing
    (map-id (range_with_len 0 n) ∙ sym e) (IsStrictlyIncreasing-from_0 n)

-- one more lane was made, with the next number and the next pass
pub one_made : (tree : TreeFace) (before maker next : MakerFace) (lanes : List TreeLane)
    (lane : TreeLane) → AreMade tree before maker lanes → lane.number ≡ length lanes → IsNew lane
    → lane.port.pass.tree ≡ tree → lane.port.pass.number ≡ maker.made → next.tree ≡ maker.tree
    → next.made ≡ maker.made + 1 → next.taken ≡ maker.taken
    → AreMade tree before next (lanes ++ lane ∷ [])
one_made tree before maker next lanes lane m number new its_tree pass same made taken = record {
  lane_numbers = numbers_push (λ (l : TreeLane). l.number) lanes lane m.lane_numbers number;
  fresh = All-push IsNew lanes lane m.fresh new;
  trees = All-push (λ (l : TreeLane). l.port.pass.tree ≡ tree) lanes lane m.trees its_tree;
  numbers = numbers_push (λ (l : TreeLane). l.port.pass.number) lanes lane m.numbers
      (pass ∙ m.made);
  same_tree = same ∙ m.same_tree;
  made = let more = length-append lanes (lane ∷ []) in let was = m.made in
      omega (arith, more, was, made);
  taken = taken ∙ m.taken;
}
