-- A search finds a number exactly if it is among the others. Serves `kinds.rt` and `shapes.rt`, and
-- whoever looks for a base twice.
use Rattle.std.proofs.Common.{◌≡◌, ◌↔◌, ◌==◌, ◌||◌, Bool, true, false, ℕ, IsTrue, List, [], ◌∷◌, refl, inl, inr, arith}
use Rattle.std.proofs.lemmas.Bool.Decides.{nat_tests}
use Rattle.std.specs.List.{list_any}
use Rattle.ist_core.specs.LogTerms.{Among}

-- a search finds a number exactly if it is among the others
module _ (x : ℕ) where
  found_first : (y : ℕ) (ys : List ℕ) → (IsTrue (list_any (λ z. z == x) ys) → Among x ys)
      → (b : Bool) → (y == x) ≡ b → (b || list_any (λ z. z == x) ys) ≡ true → Among x (y ∷ ys)
  found_first y ys more true i e = inl (grind (arith, nat_tests))
  found_first y ys more false i e = inr (more e)

  any_found : (xs : List ℕ) → IsTrue (list_any (λ y. y == x) xs) → Among x xs
  any_found [] e = cc
  any_found (y ∷ ys) e = found_first y ys (any_found ys) (y == x) refl e

  finds_later : (ys : List ℕ) → IsTrue (list_any (λ z. z == x) ys) → (b : Bool)
      → (b || list_any (λ z. z == x) ys) ≡ true
  finds_later ys e true = refl
  finds_later ys e false = e

  found_any : (xs : List ℕ) → Among x xs → IsTrue (list_any (λ y. y == x) xs)
  found_any [] a = absurd a
  found_any (y ∷ ys) (inl i) = grind (arith, nat_tests)
  found_any (y ∷ ys) (inr a) = finds_later ys (found_any ys a) (y == x)

  -- a search finds a number exactly if it is among these
  pub any_among : (xs : List ℕ) → IsTrue (list_any (λ y. y == x) xs) ↔ Among x xs
  any_among xs = (any_found xs, found_any xs)
