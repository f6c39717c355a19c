-- What is left of a building list from a place on, and the lists that begin. Serves `fairness.rt`.
use Rattle.std.proofs.Common.{◌≡◌, ◌≢◌, ◌↔◌, ◌∙◌, ◌+◌, ◌-◌, ◌<◌, ◌≤◌, ◌⊎◌, Bool, ℕ, zero, suc, List, [], ◌∷◌, ◌++◌, length, get_or, take, drop, sym, ap, subst, ⊎_elim, arith}
use Rattle.std.specs.Prelude.{slice_index_or}
use Rattle.std.proofs.lemmas.List.{take_more, take_all}
use Rattle.ist_core.specs.LogTerms.{Among}
use Rattle.ist_core.proofs.AllWordLemmas.{among-append, among_left, among_right}
use Rattle.check_fairness.specs.declared.spares.Spare.{Spare}
use Rattle.check_fairness.specs.Searching.{Goes, is_full, TakesNext, BeginsOne}
use Rattle.check_fairness.specs.Readings.{rest_at, BeginsAmong}
use Rattle.check_fairness.proofs.AnswerLemmas.{following, on_none, on_other, on_is}

-- after the first of what is left
pub rest_after : (lists : List (List ℕ)) (i n : ℕ) (left : List ℕ) → left ≡ rest_at lists i n
    → 1 ≤ length left → following left ≡ rest_at lists i (n + 1)
rest_after lists i n left e some = ap following e ∙ at n (slice_index_or lists i [])
    (subst (λ ys. 1 ≤ length ys) e some)
  where
    at : (n : ℕ) (xs : List ℕ) → 1 ≤ length (drop n xs) → following (drop n xs) ≡ drop (n + 1) xs
    at zero [] h = absurd (omega arith)
    at zero (x ∷ xs) h = grind (arith, take_all)
    at (suc n) [] h = absurd (omega arith)
    at (suc n) (x ∷ xs) h = let next : suc n + 1 ≡ suc (n + 1) = omega arith in at n xs h
        ∙ sym (ap (λ k. drop k (x ∷ xs)) next)

-- what a list leaves after the size with which it continues
module _ (lists : List (List ℕ)) (room : ℕ) (may : Spare) (i n : ℕ) (left : List ℕ)
    (left_is : left ≡ rest_at lists i n) (x : ℕ) (xs : List ℕ) where
  -- if nothing is left, no size goes on
  pub nothing_on : length left < 1
      → ¬ (TakesNext (λ l. Among l lists) room may (rest_at lists i n) x xs)
  nothing_on h = grind (arith, on_none)

  -- if another size comes first, this one doesn't go on
  pub other_on : get_or left 0 0 ≢ x
      → ¬ (TakesNext (λ l. Among l lists) room may (rest_at lists i n) x xs)
  other_on ne = grind (arith, on_other)

  -- if the size comes first, the further sizes go on with the rest of the list
  pub this_on : (full : Bool) → 1 ≤ length left → get_or left 0 0 ≡ x
      → full ≡ is_full room (following left)
      → Goes (λ l. Among l lists) room may (rest_at lists i (n + 1)) full xs
      ↔ TakesNext (λ l. Among l lists) room may (rest_at lists i n) x xs
  this_on full some e f = grind (arith, rest_after, following, on_is)

-- ---- begun lists

module _ (lists : List (List ℕ)) (room : ℕ) (may : Spare) (x : ℕ) (xs : List ℕ) where
  -- none of no lists begins with the size
  pub begins_none : ¬ (BeginsAmong lists [] room may x xs)
  begins_none h = h.listed

  begins_all : BeginsAmong lists lists room may x xs ↔ BeginsOne (λ l. Among l lists) room may x xs
  begins_all = grind arith

  -- one of all lists begins with the size exactly if the size can begin a list
  pub begins_end : (i : ℕ) → length lists ≤ i
      → BeginsAmong lists (take i lists) room may x xs ↔ BeginsOne (λ l. Among l lists) room may x
      xs
  begins_end i h = grind (arith, take_all, begins_all)

  -- one of the lists up to one more
  pub begins_more : (i : ℕ) → i < length lists
      → BeginsAmong lists (take (i + 1) lists) room may x xs
      ↔ (BeginsAmong lists (take i lists) room may x xs ⊎ TakesNext (λ l. Among l lists) room may
      (rest_at lists i 0) x xs)
  begins_more i h = let here = get_or lists i [] in
      let whole : take (i + 1) lists ≡ take i lists ++ here ∷ [] = take_more lists i [] h in (
        (λ b. ⊎_elim (λ a. grind arith)
            (λ a. grind arith)
            (among-append (x ∷ b.rest) (take i lists) (here ∷ []) (subst (Among (x ∷ b.rest)) whole
            b.listed))),
        (λ k. grind (arith, among_left, among_right)),
      )
