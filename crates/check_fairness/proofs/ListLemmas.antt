-- Lists among the lists of a slice. Serves `fairness.rt` and `shapes.rt`.
use Rattle.std.proofs.Common.{◌≡◌, ◌∙◌, ◌+◌, ◌<◌, ◌⊎◌, ℕ, zero, suc, List, [], ◌∷◌, length, get_or, map, take, ap, subst, inl, inr, ⊎_elim, arith}
use Rattle.std.proofs.lemmas.List.{take_more, map-append}
use Rattle.ist_core.specs.LogTerms.{Among}
use Rattle.ist_core.proofs.AllWordLemmas.{among-append}

module _ {A : Type 0} (f : A → List ℕ) where
  -- one of the lists
  pub among_item : (xs : List A) (i : ℕ) (x : A) → i < length xs → x ≡ get_or xs i x
      → Among (f x) (map f xs)
  among_item [] i x h e = absurd (omega arith)
  among_item (y ∷ ys) zero x h e = inl (ap f e)
  among_item (y ∷ ys) (suc i) x h e = inr (among_item ys i x (omega arith) e)

  -- the lists up to one more
  pub among_more : (xs : List A) (i : ℕ) (x : A) (l : List ℕ) → i < length xs → x ≡ get_or xs i x
      → Among l (map f (take (i + 1) xs)) → Among l (map f (take i xs)) ⊎ (l ≡ f x)
  among_more xs i x l h e a =
      let whole = ap (map f) (take_more xs i x h) ∙ map-append f (take i xs) (get_or xs i x ∷ []) in
      ⊎_elim (λ k. inl k) (λ (o : Among l (f (get_or xs i x) ∷ [])). grind arith)
      (among-append l (map f (take i xs)) (f (get_or xs i x) ∷ []) (subst (λ ys. Among l ys) whole
      a))
