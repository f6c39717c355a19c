-- Parts: how many keys each has, where it begins, and how many all of them have together.
use Rattle.std.proofs.Common.{◌≡◌, ◌∙◌, ℕ, zero, suc, ◌+◌, ◌-◌, ◌*◌, ◌/◌, ◌%◌, ◌<◌, ◌≤◌, max, min, map, ⊎_elim, sym, ap, arith, mul-le-mul_left, add-one}
use Rattle.std.proofs.lemmas.Bool.{cases_lt}
use Rattle.std.proofs.lemmas.Bool.Decides.{nat_tests}
use Rattle.std.proofs.lemmas.List.FromFn.{sum_by-map-range_with_len_more}
use Rattle.std.specs.List.{sum, sum_by, range_with_len}
use Rattle.ist_core.specs.WordTerms.{square_root, degree, part_len, part_lens, part_start}
use Rattle.ist_core.proofs.RootLemmas.{square_grows, root_below, square_root-le, square_root-lt, degree_is, least_degree-le, degree-le}

-- ---- one part

-- the length of one of the first parts, which are longer
pub part_len-long : (n j : ℕ) → j < n % degree n → part_len n j ≡ n / degree n + 1
unfolding part_len
part_len-long n j h = grind (arith, nat_tests)

-- the length of one of the other parts
pub part_len-short : (n j : ℕ) → n % degree n ≤ j → part_len n j ≡ n / degree n
unfolding part_len
part_len-short n j h = grind (arith, nat_tests)

-- a longer part is a share and one more, at a degree that is known
pub longer_at : (n j d : ℕ) → d ≡ degree n → j < n % d → n / d + 1 ≡ part_len n j
longer_at n j d e h = grind (arith, part_len-long)

-- a later part is a share, at a degree that is known
pub shorter_at : (n j d : ℕ) → d ≡ degree n → n % d ≤ j → n / d ≡ part_len n j
shorter_at n j d e h = grind (arith, part_len-short)

-- a quotient is at least 1
quotient-pos : (n d : ℕ) → d ≤ n → 2 ≤ d → 1 ≤ n / d
quotient-pos n d h k = grind (arith, cases_lt)

-- no part is empty
pub part_len-pos : (n j : ℕ) → 2 ≤ n → 1 ≤ part_len n j
part_len-pos n j h =
    grind (arith, quotient-pos, degree-le, least_degree-le, part_len-long, part_len-short, cases_lt)

-- a quotient is below the whole, and if there is a remainder one more is too
quotient-lt : (n d : ℕ) → 2 ≤ d → d ≤ n → n / d < n
quotient-lt n d h k = let q = mul-le-mul_left (n / d) h in omega arith

quotient_more-lt : (n d : ℕ) → 2 ≤ d → d ≤ n → 0 < n % d → n / d + 1 < n
quotient_more-lt n d h k l = grind (arith, quotient-pos)

-- a part has fewer keys than the whole
pub part_len-lt : (n j : ℕ) → 2 ≤ n → part_len n j < n
part_len-lt n j h =
    grind (
      arith,
      least_degree-le,
      degree-le,
      quotient_more-lt,
      part_len-long,
      quotient-lt,
      part_len-short,
      cases_lt,
    )

-- the quotient by the root is at most the root plus 2, and less if there is a remainder
quotient_root : (n s q e : ℕ) → 1 ≤ s → s * q + e ≡ n → n < (s + 1) * (s + 1) → q ≤ s + 2
quotient_root n s q e h k l = ⊎_elim
    (λ (y : s + 2 < q).
    let p = mul-le-mul_left s (let x : s + 3 ≤ q = omega arith in x) in absurd (omega arith))
    (λ (y : q ≤ s + 2). y) (cases_lt (s + 2) q)

quotient_root_more : (n s q e : ℕ) → 1 ≤ s → s * q + e ≡ n → n < (s + 1) * (s + 1) → 0 < e
    → q ≤ s + 1
quotient_root_more n s q e h k l m = ⊎_elim
    (λ (y : s + 1 < q).
    let p = mul-le-mul_left s (let x : s + 2 ≤ q = omega arith in x) in absurd (omega arith))
    (λ (y : q ≤ s + 1). y) (cases_lt (s + 1) q)

-- in terms of a number r whose next square is above n, a part has at most two keys more than r
pub part_len-le : (n j r : ℕ) → 2 ≤ n → 2 ≤ r → n < (r + 1) * (r + 1) → part_len n j ≤ r + 2
part_len-le n j r h k l =
    ⊎_elim few (many (square_root n) (square_root-lt n) root known) (cases_lt (square_root n) 2)
  where
    root : square_root n ≤ r
    root = root_below (square_root n) r n (square_root-le n) l

    known : degree n ≡ max 2 (square_root n)
    known = degree_is n (square_root n) (square_root-le n) (square_root-lt n)

    few : square_root n < 2 → part_len n j ≤ r + 2
    few y = let square = square_grows (square_root n + 1) 2 (omega arith) in
        omega (arith, square_root-lt n, part_len-lt n j h)

    many : (s : ℕ) → n < (s + 1) * (s + 1) → s ≤ r → degree n ≡ max 2 s → 2 ≤ s
        → part_len n j ≤ r + 2
    many s b c e a =
        grind (
          arith,
          part_len-long,
          part_len-short,
          least_degree-le,
          quotient_root_more,
          quotient_root,
          cases_lt,
        )

-- ---- parts together

-- the sum of a function over one part more
pub sum_of_more : (g : ℕ → ℕ) (n k : ℕ) → sum_by g (map (part_len n) (range_with_len 0 (suc k)))
    ≡ sum_by g (map (part_len n) (range_with_len 0 k)) + g (part_len n k)
sum_of_more g n k = ap (λ m. sum_by g (map (part_len n) (range_with_len 0 m))) (sym (add-one k))
    ∙ sum_by-map-range_with_len_more g (part_len n) 0 k k (omega arith)

-- the sum of a function over the first k parts, if all of them are longer parts
sum_of_long_parts : (g : ℕ → ℕ) (n k : ℕ) → k ≤ n % degree n
    → sum_by g (map (part_len n) (range_with_len 0 k)) ≡ k * g (n / degree n + 1)
sum_of_long_parts g n zero h = omega arith
sum_of_long_parts g n (suc k) h = let one = ap g (part_len-long n k (omega arith)) in
    let rest = sum_of_long_parts g n k (omega arith) in omega (arith, sum_of_more g n k)

-- the sum of a function over all longer parts and m others
sum_of_parts : (g : ℕ → ℕ) (n m : ℕ)
    → sum_by g (map (part_len n) (range_with_len 0 (n % degree n + m)))
    ≡ n % degree n * g (n / degree n + 1) + m * g (n / degree n)
sum_of_parts g n zero = grind (arith, sum_of_long_parts)
sum_of_parts g n (suc m) = let one = ap g (part_len-short n (n % degree n + m) (omega arith)) in
    let next : n % degree n + suc m ≡ suc (n % degree n + m) = omega arith in
    let more = ap (λ k. sum_by g (map (part_len n) (range_with_len 0 k))) next in
    omega (arith, sum_of_more g n (n % degree n + m), sum_of_parts g n m)

-- the sum of a function over all parts
pub sum_by-part_lens : (g : ℕ → ℕ) (n : ℕ) → sum_by g (part_lens n)
    ≡ n % degree n * g (n / degree n + 1) + (degree n - n % degree n) * g (n / degree n)
unfolding part_lens
sum_by-part_lens g n = let few : n % degree n < degree n = omega (arith, least_degree-le n) in
    let all : degree n ≡ n % degree n + (degree n - n % degree n) = omega arith in
    ap (λ k. sum_by g (map (part_len n) (range_with_len 0 k))) all
    ∙ sum_of_parts g n (degree n - n % degree n)

-- the parts have all keys
pub sum-part_lens : (n : ℕ) → sum (part_lens n) ≡ n
sum-part_lens n = let few : n % degree n < degree n = omega (arith, least_degree-le n) in
    sum_by-part_lens (λ x. x) n
    ∙ shares (degree n) (n / degree n) (n % degree n) (degree n - n % degree n)
    (omega (arith, least_degree-le n)) (omega arith)
  where
    -- r shares of q + 1 and m shares of q are r + m shares of q, and r
    shares : (d q r m : ℕ) → d * q + r ≡ n → d ≡ r + m → r * (q + 1) + m * q ≡ n
    shares d q r m e f = let product = ap (λ k. k * q) f in omega arith

-- ---- where a part begins

-- part j begins after j equal shares, plus one key for each longer part before it
pub part_start_is : (n j : ℕ) → part_start n j ≡ j * (n / degree n) + min j (n % degree n)
unfolding part_start
part_start_is n j = ⊎_elim few many (cases_lt j (n % degree n))
  where
    few : j < n % degree n → part_start n j ≡ j * (n / degree n) + min j (n % degree n)
    few h = let longer = sum_of_long_parts (λ x. x) n j (omega arith) in omega arith

    shares : (q r m : ℕ) → j ≡ r + m → r * (q + 1) + m * q ≡ j * q + min j r
    shares q r m e = let product = ap (λ k. k * q) e in omega arith

    many : n % degree n ≤ j → part_start n j ≡ j * (n / degree n) + min j (n % degree n)
    many h = let all : j ≡ n % degree n + (j - n % degree n) = omega arith in
        ap (λ k. sum (map (part_len n) (range_with_len 0 k))) all
        ∙ sum_of_parts (λ x. x) n (j - n % degree n)
        ∙ shares (n / degree n) (n % degree n) (j - n % degree n) all

-- where part j begins, at a degree that is known
pub start_at : (n j d extra : ℕ) → d ≡ degree n → extra ≡ min j (n % d)
    → j * (n / d) + extra ≡ part_start n j
start_at n j d extra e f = grind (arith, part_start_is)

-- a part ends where the next one begins
pub part_start-suc : (n j : ℕ) → part_start n (suc j) ≡ part_start n j + part_len n j
unfolding part_start
part_start-suc n j = sum_of_more (λ x. x) n j

-- a part lies within the whole
pub part_end-le : (n j : ℕ) → j < degree n → part_start n j + part_len n j ≤ n
part_end-le n j h =
    within (degree n) (n / degree n) (n % degree n) (omega (arith, least_degree-le n)) h
    (part_start_is n (suc j))
  where
    within : (d q r : ℕ) → d * q + r ≡ n → j < d
        → part_start n (suc j) ≡ suc j * q + min (suc j) r → part_start n j + part_len n j ≤ n
    within d q r e k f = let shares = mul-le-mul_left q k in omega (arith, part_start-suc n j)
