-- A table without pairs opens if it has its fixed words. Serves the tests.
use Rattle.std.proofs.Common.{◌≡◌, ℕ, zero, suc, ◌<◌, ◌≤◌, List, [], ◌∷◌, length, replicate, slice_get, slice_set, Some, refl, subst, sym, arith}
use Rattle.std.proofs.lemmas.List.{length-replicate}
use Rattle.std.proofs.lemmas.Option.{none-some}
use Rattle.ist_core.specs.declared.pairs.Pair.{Pair}
use Rattle.ist_core.specs.WordTerms.{ideal_words, ideal_words_within, first_row, place_limit, start, rows_within, IsImage}
use Rattle.ist_core.specs.LogTerms.{CanOpen}

-- a table without pairs may be opened
pub empty_opens : (words : ℕ) → first_row ≤ words → words ≤ place_limit → CanOpen [] words
unfolding ideal_words ideal_words_within
empty_opens words enough within = grind arith

-- each of some zeros is a zero
zero_lies : (n i : ℕ) → i < n → slice_get {X = ℕ} (replicate n 0) i ≡ Some 0
zero_lies zero i low = absurd (omega arith)
zero_lies (suc n) zero low = refl
zero_lies (suc n) (suc i) low = zero_lies n i (omega arith)

-- the words of such a table are a 4 and zeros
pub empty_image : (zeros : ℕ) → 3 ≤ zeros → IsImage (start [] (suc zeros)) (4 ∷ replicate zeros 0)
unfolding ideal_words ideal_words_within rows_within
empty_image zeros enough = grind (arith, length-replicate, zero_lies, none-some)

-- zeros of which the first is set to 4 are an image too
pub zeros_image : (pairs : List Pair) → pairs ≡ [] → (n : ℕ) (words : List ℕ)
    → words ≡ replicate n 0 → 4 ≤ n
    → IsImage (start pairs (length (slice_set words 0 4))) (slice_set words 0 4)
zeros_image pairs none zero words same enough = absurd (omega arith)
zeros_image pairs none (suc n) words same enough = grind (arith, length-replicate, empty_image)

-- such a table opens
pub zeros_open : (pairs : List Pair) → pairs ≡ [] → (n : ℕ) (words : List ℕ) → words ≡ replicate n 0
    → 4 ≤ n → n ≤ place_limit → CanOpen pairs (length (slice_set words 0 4))
zeros_open pairs none zero words same enough within = absurd (omega arith)
zeros_open pairs none (suc n) words same enough within =
    subst (λ ps. CanOpen ps (length (slice_set words 0 4))) (sym none)
    (subst (λ ws. CanOpen [] (length (slice_set ws 0 4))) (sym same)
    (subst (λ m. CanOpen [] (suc m)) (sym (length-replicate n 0))
    (empty_opens (suc n) enough within)))
