-- Lists in reverse. Serves `listing` and `auditing`, which keep what is left with the next one last.
use Rattle.std.proofs.Common.{◌≡◌, ℕ, List, [], ◌∷◌, ◌++◌, reverse, refl, ap, ◌∙◌, arith}
use Rattle.std.proofs.lemmas.List.{reverse-append, reverse-reverse}
use Rattle.std.proofs.lemmas.List.Sums.{sum_by-append, sum_by-cons}
use Rattle.std.specs.List.{sum_by}

-- the last of some items is the first of them in reverse
pub turned : {A : Type 0} (xs ys : List A) (x : A) → xs ≡ ys ++ x ∷ [] → reverse xs ≡ x ∷ reverse ys
turned xs ys x e = ap reverse e ∙ reverse-append ys (x ∷ [])

-- items that end with some in reverse begin with these, in reverse
pub turned_back : {A : Type 0} (ys zs xs : List A) → xs ≡ ys ++ reverse zs
    → reverse xs ≡ zs ++ reverse ys
turned_back ys zs xs e = grind (arith, reverse-append, reverse-reverse)

-- a sum over a list in reverse
pub sum_reverse : {A : Type 0} (f : A → ℕ) (xs : List A) → sum_by f (reverse xs) ≡ sum_by f xs
sum_reverse f [] = refl
sum_reverse f (x ∷ xs) = let a = sum_by-append f (reverse xs) (x ∷ []) in
    let b = sum_by-cons f x xs in let c = sum_by-cons f x [] in let d = sum_reverse f xs in
    let e : reverse (x ∷ xs) ≡ reverse xs ++ x ∷ [] = reverse-append (x ∷ []) xs in
    let g : sum_by f (reverse xs ++ x ∷ []) ≡ sum_by f (x ∷ xs) = let n : sum_by f [] ≡ 0 =
    refl in omega arith in
    ap (sum_by f) e ∙ g
