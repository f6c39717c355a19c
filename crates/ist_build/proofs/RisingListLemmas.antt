-- Lists that rise, filters, and lists of held rows by their bases. Serves the calls that put a build in
-- place.
use Rattle.std.proofs.Common.{◌≡◌, ℕ, ◌<◌, ◌≤◌, Bool, true, false, if◌then◌else◌, List, [], ◌∷◌, ◌++◌, length, map, filter, refl, sym, ap, ap₂, subst, inl, inr, ⊎_elim, length-append, arith}
use Rattle.ist_core.specs.declared.lists.HeldRow.{HeldRow}
use Rattle.ist_core.specs.LogTerms.{Among, Distinct}
use Rattle.ist_core.proofs.AllWordLemmas.{among-append, among_left, among_right, each-among, each_append}
use Rattle.ist_build.specs.Laying.{Rises}

-- ---- lists

-- a filter that keeps each
pub keeps_all : {A : Type 0} (p : A → Bool) (xs : List A) → ((x : A) → Among x xs → p x ≡ true)
    → filter p xs ≡ xs
keeps_all p [] h = refl
keeps_all p (x ∷ xs) h =
    ap₂ (λ b ys. if b then x ∷ ys else ys) (h x (inl refl)) (keeps_all p xs (λ y i. h y (inr i)))

-- and one that keeps none
pub keeps_none : {A : Type 0} (p : A → Bool) (xs : List A) → ((x : A) → Among x xs → p x ≡ false)
    → filter p xs ≡ []
keeps_none p [] h = refl
keeps_none p (x ∷ xs) h =
    ap₂ (λ b ys. if b then x ∷ ys else ys) (h x (inl refl)) (keeps_none p xs (λ y i. h y (inr i)))

-- an element splits its list in two
around : (x : ℕ) (ys : List ℕ) → Among x ys → (left : List ℕ) × (right : List ℕ)
    × (ys ≡ left ++ x ∷ right)
around x [] i = absurd i
around x (y ∷ ys) (inl e) = ([], ys, ap (λ z. z ∷ ys) (sym e))
around x (y ∷ ys) (inr i) = let it = around x ys i in (y ∷ it.0, it.1, ap (λ zs. y ∷ zs) it.2)

-- elements of a list, no fewer than it has, are all of it
pub covers : (xs ys : List ℕ) → Distinct xs → ((x : ℕ) → Among x xs → Among x ys)
    → length ys ≤ length xs → (y : ℕ) → Among y ys → Among y xs
covers [] [] d within few y i = i
covers [] (z ∷ zs) d within few y i = absurd (omega arith)
covers (x ∷ xs) ys d within few y i = let it = around x ys (within x (inl refl)) in
    let left = it.0 in let right = it.1 in let one = length-append left (x ∷ right) in
    let two = length-append left right in let all = ap length it.2 in
    at left right (covers xs (left ++ right) d.1
    (λ z j. without_x left right z j (subst (Among z) it.2 (within z (inr j)))) (omega arith))
    (subst (Among y) it.2 i)
  where
    without_x : (left right : List ℕ) (z : ℕ) → Among z xs → Among z (left ++ x ∷ right)
        → Among z (left ++ right)
    without_x left right z j k = ⊎_elim (λ l. among_left z left right l)
        (λ r. ⊎_elim (λ e. absurd (d.0 (subst (λ w. Among w xs) e j)))
        (λ s. among_right z left right s) r)
        (among-append z left (x ∷ right) k)

    at : (left right : List ℕ) → ((z : ℕ) → Among z (left ++ right) → Among z xs)
        → Among y (left ++ x ∷ right) → Among y (x ∷ xs)
    at left right rest k = ⊎_elim (λ l. inr (rest y (among_left y left right l)))
        (λ r. ⊎_elim (λ e. inl e) (λ s. inr (rest y (among_right y left right s))) r)
        (among-append y left (x ∷ right) k)

-- the base of a held row is among the bases
pub among_map : (h : HeldRow) (hs : List HeldRow) → Among h hs → Among h.base (map (λ g. g.base) hs)
among_map h [] i = absurd i
among_map h (g ∷ hs) (inl e) = inl (ap (λ x. x.base) e)
among_map h (g ∷ hs) (inr i) = inr (among_map h hs i)

-- a base among the bases is the base of a held row
pub of_map : (b : ℕ) (hs : List HeldRow) → Among b (map (λ g. g.base) hs)
    → (h : HeldRow) × Among h hs × (h.base ≡ b)
of_map b [] i = absurd i
of_map b (h ∷ hs) (inl e) = (h, inl refl, sym e)
of_map b (h ∷ hs) (inr i) = let it = of_map b hs i in (it.0, inr it.1, it.2)

-- one more that is greater than all
pub rises_last : (xs : List ℕ) (y : ℕ) → Rises xs → ((x : ℕ) → Among x xs → x < y) → Rises (xs ++ y ∷ [])
rises_last [] y d low = (tt, tt)
rises_last (x ∷ xs) y d low = (
  each_append (λ z. x < z) xs (y ∷ []) d.0 (low x (inl refl), tt),
  rises_last xs y d.1 (λ z i. low z (inr i)),
)

-- lists that rise and have the same elements are one
pub one_rising : (xs ys : List ℕ) → Rises xs → Rises ys → ((x : ℕ) → Among x xs → Among x ys)
    → ((y : ℕ) → Among y ys → Among y xs) → xs ≡ ys
one_rising [] [] d e there back = refl
one_rising [] (y ∷ ys) d e there back = absurd (back y (inl refl))
one_rising (x ∷ xs) [] d e there back = absurd (there x (inl refl))
one_rising (x ∷ xs) (y ∷ ys) d e there back = ap₂ (λ z zs. z ∷ zs) same
    (one_rising xs ys d.1 e.1
    (λ z i. let more = each-among (λ w. x < w) z xs d.0 i in
    ⊎_elim (λ q. absurd (let s = same in omega arith)) (λ j. j) (there z (inr i)))
    (λ z i. let more = each-among (λ w. y < w) z ys e.0 i in
    ⊎_elim (λ q. absurd (let s = same in omega arith)) (λ j. j) (back z (inr i))))
  where
    same : x ≡ y
    same = ⊎_elim (λ q. q)
        (λ i. let over = each-among (λ w. y < w) x ys e.0 i in ⊎_elim (λ q. sym q)
        (λ j. let under = each-among (λ w. x < w) y xs d.0 j in absurd (omega arith))
        (back y (inl refl)))
        (there x (inl refl))
