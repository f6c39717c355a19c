-- The child of a key, found at the place where the keys change from at most x to above x, and the
-- keys on both its sides.
use Rattle.std.proofs.Common.{◌≡◌, ℕ, zero, suc, ◌+◌, ◌-◌, ◌*◌, ◌<◌, ◌≤◌, ◌∙◌, min, nat_le, nat_lt, cond, true, false, List, length, get_or, take, ⊎_elim, sym, ap, subst, arith, add-one}
use Rattle.std.proofs.lemmas.Bool.{cases_lt}
use Rattle.std.proofs.lemmas.Bool.Decides.{nat_tests}
use Rattle.std.proofs.lemmas.List.{take_all}
use Rattle.std.proofs.lemmas.List.Sums.{count_by-le-length, count_by_more_yes, count_by_more_no}
use Rattle.std.specs.List.Sorted.{IsStrictlyIncreasing}
use Rattle.ist_core.specs.WordTerms.{child_count}
use Rattle.ist_core.proofs.AllPlaceLemmas.{child_count_tells}
use Rattle.ist_math.specs.declared.gallops.Gallop.{Gallop}
use Rattle.ist_math.specs.Gallops.{Gallops}
use Rattle.ist_math.proofs.GallopLemmas.{looks-near}

-- a key m places further on is at least as large
rises_over : (keys : List ℕ) (k m : ℕ) → IsStrictlyIncreasing keys → k + m < length keys
    → get_or keys k 0 ≤ get_or keys (k + m) 0
rises_over keys k zero rises h = grind arith
rises_over keys k (suc m) rises h =
    let step : get_or keys (k + m) 0 < get_or keys (k + m + 1) 0 = rises (k + m) (omega arith) in
    let e = ap (λ i. get_or keys i 0) (let z : k + suc m ≡ k + m + 1 = omega arith in z) in
    let rest = rises_over keys k m rises (omega arith) in omega arith

-- a later key is at least as large
pub keys_rise : (keys : List ℕ) (i k : ℕ) → IsStrictlyIncreasing keys → i ≤ k → k < length keys
    → get_or keys i 0 ≤ get_or keys k 0
keys_rise keys i k rises h l = let e : i + (k - i) ≡ k = omega arith in
    let same = ap (λ j. get_or keys j 0) e in
    let over = rises_over keys i (k - i) rises (omega arith) in omega arith

-- of two keys or more the last is above the first
pub first-lt-last : (keys : List ℕ) → IsStrictlyIncreasing keys → 2 ≤ length keys
    → get_or keys 0 0 < get_or keys (length keys - 1) 0
first-lt-last keys rises h =
    let step : get_or keys 0 0 < get_or keys (0 + 1) 0 = rises 0 (omega arith) in
    let rest = keys_rise keys (0 + 1) (length keys - 1) rises (omega arith) (omega arith) in
    omega arith

-- if the keys before `at` are at most x and the keys from it on are above x, the child is `at`
pub child_count_is : (keys : List ℕ) (x at : ℕ) → IsStrictlyIncreasing keys → at ≤ length keys
    → (at < length keys → x < get_or keys at 0) → (0 < at → get_or keys (at - 1) 0 ≤ x)
    → child_count keys x ≡ at
child_count_is keys x at rises within above below =
    let all = sym (take_all (length keys) keys (omega arith)) in
    ap (λ (ks : List ℕ). child_count ks x) all ∙ up_to (length keys) (omega arith) ∙ omega arith
  where
    up_to : (j : ℕ) → j ≤ length keys → child_count (take j keys) x ≡ min j at
    up_to zero h = omega arith
    up_to (suc j) h = ap (λ k. child_count (take k keys) x) (sym (add-one j))
        ∙ (let so_far = up_to j (omega arith) in
        ⊎_elim (before so_far) (following so_far) (cases_lt j at))
      where
        before : child_count (take j keys) x ≡ min j at → j < at
            → child_count (take (j + 1) keys) x ≡ min (suc j) at
        before so_far y = let rest = keys_rise keys j (at - 1) rises (omega arith) (omega arith) in
            let last = below (omega arith) in let low : get_or keys j 0 ≤ x = omega arith in
            let test : nat_le (get_or keys j 0) x ≡ true = grind (arith, nat_tests) in
            let yes = count_by_more_yes (λ key. nat_le key x) keys j 0 (omega arith) test in
            omega arith

        following : child_count (take j keys) x ≡ min j at → at ≤ j
            → child_count (take (j + 1) keys) x ≡ min (suc j) at
        following so_far y = let rest = keys_rise keys at j rises y (omega arith) in
            let first = above (omega arith) in let high : x < get_or keys j 0 = omega arith in
            let test : nat_le (get_or keys j 0) x ≡ false = grind (arith, nat_tests) in
            let no = count_by_more_no (λ key. nat_le key x) keys j 0 (omega arith) test in
            omega arith

-- a child is at most the number of keys
pub child_most : (keys : List ℕ) (x : ℕ) → child_count keys x ≤ length keys
child_most keys x = count_by-le-length (λ key. nat_le key x) keys

-- the keys on both sides of the child of x
module _ (keys : List ℕ) (rises : IsStrictlyIncreasing keys) (x i : ℕ) (is : i ≡ child_count keys x)
  where
    -- otherwise a number from x on would have a child before it
    none_above : 0 < i → x < get_or keys (i - 1) 0 → ⊥
    none_above some less = let most = child_most keys x in let y = get_or keys (i - 1) 0 - 1 in
        let before : child_count keys y ≡ i - 1 = child_count_is keys y (i - 1) rises
        (omega arith) (λ l. omega arith)
        (λ more. let r = rises (i - 1 - 1) (omega arith) in let n : i - 1 - 1 + 1 ≡ i - 1 =
        omega arith in
        let r : get_or keys (i - 1 - 1) 0 < get_or keys (i - 1) 0 =
        subst (λ m. get_or keys (i - 1 - 1) 0 < get_or keys m 0) n r in omega arith) in
        let tells = child_count_tells keys y x (omega arith) in omega arith

    -- the key before the child, if there is one, is at most x
    pub key_before_child : 0 < i → get_or keys (i - 1) 0 ≤ x
    key_before_child some = grind (arith, none_above, cases_lt)

    -- the key after the child, if there is one, is above x
    pub key_after_child : i < length keys → x < get_or keys i 0
    key_after_child more = let k = get_or keys i 0 in
        let following : child_count keys k ≡ i + 1 = child_count_is keys k (i + 1) rises
        (omega arith) (λ l. rises i l)
        (λ some. let n : i + 1 - 1 ≡ i = omega arith in subst (λ m. get_or keys m 0 ≤ k) (sym n)
        (omega arith)) in
        child_count_tells keys x k (omega arith)

-- a gallop from a guess is between two keys, around the child
pub record HasGalloped (keys : List ℕ) (x guess : ℕ) (g : Gallop) (looks : ℕ) : Type 0 where
  pub within : g.high < length keys
  pub below : get_or keys g.low 0 ≤ x
  pub above : x < get_or keys g.high 0
  pub gallops : Gallops g guess looks

-- a gallop after one more look
pub galloped_on : (keys : List ℕ) (x guess : ℕ) (g next : Gallop) (looks at : ℕ)
    → HasGalloped keys x guess g looks → g.low < at → at < g.high
    → next.low ≡ cond (nat_lt x (get_or keys at 0)) g.low at
    → next.high ≡ cond (nat_lt x (get_or keys at 0)) at g.high → Gallops next guess (suc looks)
    → HasGalloped keys x guess next (looks + 1)
galloped_on keys x guess g next looks at h up down = grind (arith, nat_tests)

-- the end of a gallop is the child
pub galloped_to : (keys : List ℕ) (x guess : ℕ) (g : Gallop) (looks : ℕ)
    → IsStrictlyIncreasing keys → HasGalloped keys x guess g looks → g.low + 1 ≡ g.high
    → child_count keys x ≡ g.high
galloped_to keys x guess g looks rises h e = let within = h.within in let below = h.below in
    let one : g.high - 1 ≡ g.low = omega arith in let same = ap (λ n. get_or keys n 0) one in
    child_count_is keys x g.high rises (omega arith) (λ _. h.above) (λ _. omega arith)

-- of keys that are all above x the first is the child, and of keys that are all at most x the last
pub child_is_first : (keys : List ℕ) (x : ℕ) → IsStrictlyIncreasing keys → x < get_or keys 0 0
    → child_count keys x ≡ 0
child_is_first keys x rises above =
    child_count_is keys x 0 rises (omega arith) (λ _. above) (λ none. absurd (omega arith))

-- if the last key is at most x, the child is the last one
pub child_is_last : (keys : List ℕ) (x : ℕ) → IsStrictlyIncreasing keys
    → get_or keys (length keys - 1) 0 ≤ x → child_count keys x ≡ length keys
child_is_last keys x rises below =
    child_count_is keys x (length keys) rises (omega arith) (λ less. absurd (omega arith))
    (λ _. below)

-- looks are few enough to be counted
pub looks_fit : (keys : List ℕ) (x guess : ℕ) (g : Gallop) (looks : ℕ)
    → HasGalloped keys x guess g looks → guess < length keys → looks ≤ 2 * length keys + 3
looks_fit keys x guess g looks h less = let near = looks-near g guess looks h.gallops in
    let within = h.within in let some = h.gallops.some in omega arith
