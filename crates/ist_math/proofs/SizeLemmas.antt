-- Two trees, one with one key more than the other: their parts have the same two sizes.
use Rattle.std.proofs.Common.{◌≡◌, ℕ, ◌+◌, ◌-◌, ◌*◌, ◌/◌, ◌<◌, ◌≤◌, min, ⊎_elim, arith}
use Rattle.std.proofs.lemmas.Bool.{cases_lt}
use Rattle.ist_core.specs.WordTerms.{degree, ideal_words}
use Rattle.ist_core.proofs.AllWordLemmas.{least_degree-le, degree_next, mixed_words, ideal_words_by_two}

-- d parts of s or s + 1 keys have n keys, and e such parts have one key more
pub record FitsBoth (n d e s : ℕ) : Type 0 where
  pub enough : d * s ≤ n
  pub near : n ≤ d * (s + 1)
  pub enough_next : e * s ≤ n + 1
  pub near_next : n + 1 ≤ e * (s + 1)

-- a quotient, by the two products around the whole
quotient_is : (n d q : ℕ) → 0 < d → d * q ≤ n → n < d * (q + 1) → n / d ≡ q
quotient_is n d q h k l = grind (arith, cases_lt)

-- the same degree: the smaller tree has the shorter parts
fits_same : (n d s : ℕ) → 2 ≤ d → s ≡ min (n / d) ((n + 1) / d) → FitsBoth n d d s
fits_same n d s h e = grind (arith, cases_lt)

-- the next degree: the larger tree is a square, and the smaller one has parts of one key more
fits_next : (n d e s : ℕ) → 2 ≤ d → s ≡ min (n / d) ((n + 1) / e) → e ≡ d + 1
    → n + 1 ≡ (d + 1) * (d + 1) → FitsBoth n d e s
fits_next n d e s h m k l = grind (arith, quotient_is)

-- the shortest part of either tree fits both
pub shortest_fits : (n d e s : ℕ) → 2 ≤ n → d ≡ degree n → e ≡ degree (n + 1)
    → s ≡ min (n / d) ((n + 1) / e) → FitsBoth n (degree n) (degree (n + 1)) s
shortest_fits n d e s h f g m = ⊎_elim same next (degree_next n h)
  where
    shortest : s ≡ min (n / degree n) ((n + 1) / degree (n + 1))
    shortest = grind arith

    same : degree (n + 1) ≡ degree n → FitsBoth n (degree n) (degree (n + 1)) s
    same x = grind (arith, shortest, fits_same, least_degree-le)

    next : (degree (n + 1) ≡ degree n + 1) × (n + 1 ≡ (degree n + 1) * (degree n + 1))
        → FitsBoth n (degree n) (degree (n + 1)) s
    next x = fits_next n (degree n) (degree (n + 1)) s (least_degree-le n) shortest x.0 x.1

-- the words of a node, from the words of its shortest parts and of those with one key more
pub words_from_both : (n d s first second : ℕ) → 2 ≤ n → d ≡ degree n → first ≡ ideal_words s
    → second ≡ ideal_words (s + 1) → degree n * s ≤ n → n ≤ degree n * (s + 1)
    → 2 * d + 3 + ((n - d * s) * second + (d - (n - d * s)) * first) ≡ ideal_words n
unfolding mixed_words
words_from_both n d s first second h e f g k l = grind (arith, ideal_words_by_two)
