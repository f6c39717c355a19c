-- Roots and degrees: `square_root` is the whole root, and the value of `degree`.
use Rattle.std.proofs.Common.{◌≡◌, ◌∙◌, ℕ, zero, suc, ◌+◌, ◌*◌, ◌<◌, ◌≤◌, max, nat_le, Bool, true, false, cond, ◌⊎◌, inl, inr, ⊎_elim, refl, sym, ap, arith, mul-le-mul_left}
use Rattle.std.proofs.lemmas.Bool.{cases_lt}
use Rattle.std.proofs.lemmas.Bool.Decides.{nat_tests}
use Rattle.ist_core.specs.WordTerms.{root_up_to, square_root, degree}

-- a larger number has no smaller square
pub square_grows : (a b : ℕ) → a ≤ b → a * a ≤ b * b
square_grows a b h = omega (arith, mul-le-mul_left a h, mul-le-mul_left b h)

-- a number whose square is at most n is at most each whose next square is above n
pub root_below : (a b n : ℕ) → a * a ≤ n → n < (b + 1) * (b + 1) → a ≤ b
root_below a b n h k = grind (arith, square_grows, cases_lt)

-- the square of the root so far is at most n
root_up_to-le : (top n : ℕ) → root_up_to top n * root_up_to top n ≤ n
unfolding root_up_to
root_up_to-le zero n = omega arith
root_up_to-le (suc top) n = at (nat_le (suc top * suc top) n) refl (root_up_to-le top n)
  where
    at : (b : Bool) → nat_le (suc top * suc top) n ≡ b → root_up_to top n * root_up_to top n ≤ n
        → cond b (suc top) (root_up_to top n) * cond b (suc top) (root_up_to top n) ≤ n
    at true e h = grind (arith, nat_tests)
    at false e h = h

-- the next square is above n, if the next square of `top` is
root_up_to-lt : (top n : ℕ) → n < (top + 1) * (top + 1)
    → n < (root_up_to top n + 1) * (root_up_to top n + 1)
unfolding root_up_to
root_up_to-lt zero n h = h
root_up_to-lt (suc top) n h = at (nat_le (suc top * suc top) n) refl (root_up_to-lt top n)
  where
    at : (b : Bool) → nat_le (suc top * suc top) n ≡ b
        → (n < (top + 1) * (top + 1) → n < (root_up_to top n + 1) * (root_up_to top n + 1))
        → n < (cond b (suc top) (root_up_to top n) + 1) * (cond b (suc top) (root_up_to top n) + 1)
    at true e f = h
    at false e f = f (let x : n < suc top * suc top = grind (arith, nat_tests) in omega arith)

-- the square of the root is at most n
pub square_root-le : (n : ℕ) → square_root n * square_root n ≤ n
unfolding square_root
square_root-le n = root_up_to-le n n

-- the next square is above n
pub square_root-lt : (n : ℕ) → n < (square_root n + 1) * (square_root n + 1)
unfolding square_root
square_root-lt n = grind (arith, root_up_to-lt)

-- the root is the only number with these two facts
pub square_root_is : (n r : ℕ) → r * r ≤ n → n < (r + 1) * (r + 1) → square_root n ≡ r
square_root_is n r h k = let most = root_below (square_root n) r n (square_root-le n) k in
    let least = root_below r (square_root n) n h (square_root-lt n) in omega arith

-- the degree, from a root that is known
pub degree_is : (n r : ℕ) → r * r ≤ n → n < (r + 1) * (r + 1) → degree n ≡ max 2 r
unfolding degree
degree_is n r h k = ap (max 2) (square_root_is n r h k)

-- a node has at least two children
pub least_degree-le : (n : ℕ) → 2 ≤ degree n
unfolding degree
least_degree-le n = omega arith

-- a node has at most as many children as keys
pub degree-le : (n : ℕ) → 2 ≤ n → degree n ≤ n
unfolding degree
degree-le n h = let next : n < (n + 1) * (n + 1) = omega (arith, mul-le-mul_left n h) in
    let root = root_below (square_root n) n n (square_root-le n) next in omega arith

-- from n to n + 1 keys the degree stays, or n + 1 is the square of the next degree
pub degree_next : (n : ℕ) → 2 ≤ n → (degree (n + 1) ≡ degree n)
    ⊎ ((degree (n + 1) ≡ degree n + 1) × (n + 1 ≡ (degree n + 1) * (degree n + 1)))
degree_next n h = at (square_root n) (square_root-le n) (square_root-lt n)
  where
    at : (s : ℕ) → s * s ≤ n → n < (s + 1) * (s + 1) → (degree (n + 1) ≡ degree n)
        ⊎ ((degree (n + 1) ≡ degree n + 1) × (n + 1 ≡ (degree n + 1) * (degree n + 1)))
    at s a b = ⊎_elim same next (cases_lt (n + 1) ((s + 1) * (s + 1)))
      where
        same : n + 1 < (s + 1) * (s + 1) → (degree (n + 1) ≡ degree n)
            ⊎ ((degree (n + 1) ≡ degree n + 1) × (n + 1 ≡ (degree n + 1) * (degree n + 1)))
        same y = inl (degree_is (n + 1) s (omega arith) y ∙ sym (degree_is n s a b))

        positive : 1 ≤ s
        positive = ⊎_elim
            (λ (v : s < 1). let u = square_grows (s + 1) 1 (omega arith) in absurd (omega arith))
            (λ (v : 1 ≤ s). v) (cases_lt s 1)

        next : (s + 1) * (s + 1) ≤ n + 1 → (degree (n + 1) ≡ degree n)
            ⊎ ((degree (n + 1) ≡ degree n + 1) × (n + 1 ≡ (degree n + 1) * (degree n + 1)))
        next y = let old = degree_is n s a b in
            let new = degree_is (n + 1) (s + 1) y (omega arith) in
            let square : n + 1 ≡ (s + 1) * (s + 1) = omega arith in ⊎_elim
            (λ (z : s < 2). inl (omega (arith, positive)))
            (λ (z : 2 ≤ s).
            let root : s ≡ degree n = omega arith in
            inr (omega arith, square ∙ ap (λ k. (k + 1) * (k + 1)) root))
            (cases_lt s 2)
