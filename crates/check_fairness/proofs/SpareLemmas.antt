-- Which rows may still be held in addition to the builds. Serves `fairness.rt`.
use Rattle.std.proofs.Common.{◌≡◌, ◌↔◌, ◌∙◌, ◌≢◌, ◌≤◌, ◌==◌, ◌&&◌, Bool, true, false, not, ℕ, IsTrue, List, [], ◌∷◌, length, get_or, refl, sym, ap, subst, inl, inr, ⊎_elim, arith}
use Rattle.std.proofs.lemmas.Bool.Decides.{nat_tests}
use Rattle.ist_core.specs.LogTerms.{Among, Each, spare_sizes}
use Rattle.check_fairness.specs.declared.spares.Spare.{Spare}
use Rattle.check_fairness.specs.Searching.{IsSpare, AreSpare, without_spare, all_spare}
use Rattle.check_fairness.proofs.AnswerLemmas.{following, first_after}

-- a flag is cleared by the size of its own kind, and by no other
cleared : (b : Bool) (x kind : ℕ) → IsTrue (b && not (x == kind)) → IsTrue b × (x ≢ kind)
cleared true x kind e = grind (arith, nat_tests)
cleared false x kind e = cc

kept_flag : (b : Bool) (x kind : ℕ) → IsTrue b → x ≢ kind → IsTrue (b && not (x == kind))
kept_flag true x kind e n = let k : (x == kind) ≡ false = grind (arith, nat_tests) in ap not k
kept_flag false x kind e n = cc

-- each kind by itself
module _ (may : Spare) (x y : ℕ) where
  -- what may be held once a row of size x is might be held before, and is of another size
  pub spare_before : IsSpare (without_spare may x) y → IsSpare may y × (y ≢ x)
  spare_before (inl h) = grind (arith, cleared)
  spare_before (inr (inl h)) = grind (arith, cleared)
  spare_before (inr (inr (inl h))) = grind (arith, cleared)
  spare_before (inr (inr (inr h))) = grind (arith, cleared)

  -- a row of another size may be held still
  pub spare_after : y ≢ x → IsSpare may y → IsSpare (without_spare may x) y
  spare_after n (inl h) = inl (h.0, kept_flag may.leaf x 2 h.1 (λ e. n (h.0 ∙ sym e)))
  spare_after n (inr (inl h)) = grind (arith, kept_flag)
  spare_after n (inr (inr (inl h))) = grind (arith, kept_flag)
  spare_after n (inr (inr (inr h))) = grind (arith, kept_flag)

-- the same of each of some sizes
pub each_before : (may : Spare) (x : ℕ) (ys : List ℕ) → Each (IsSpare (without_spare may x)) ys
    → Each (IsSpare may) ys × ¬ (Among x ys)
each_before may x [] h = (tt, λ a. a)
each_before may x (y ∷ ys) h = let k = spare_before may x y h.0 in
    let rest = each_before may x ys h.1 in ((k.0, rest.0), λ a. ⊎_elim (λ e. k.1 (sym e)) rest.1 a)

-- sizes that differ from x may still be held after x
pub each_after : (may : Spare) (x : ℕ) (ys : List ℕ) → ¬ (Among x ys) → Each (IsSpare may) ys
    → Each (IsSpare (without_spare may x)) ys
each_after may x [] n h = tt
each_after may x (y ∷ ys) n h = (
  spare_after may x y (λ e. n (inl (sym e))) h.0,
  each_after may x ys (λ a. n (inr a)) h.1,
)

-- sizes of rows that may be held are the size of a first one, and those of others that may be held
-- in addition to it
module _ (may : Spare) (xs : List ℕ) (some : 1 ≤ length xs) where
  spare_apart : AreSpare may (get_or xs 0 0 ∷ following xs)
      ↔ (IsSpare may (get_or xs 0 0) × AreSpare (without_spare may (get_or xs 0 0)) (following xs))
  spare_apart = grind (arith, each_after, following, each_before)

  -- if the first size is a spare row's, the sizes are spare exactly if the others are after it
  pub spare_first : (less : Spare) → IsSpare may (get_or xs 0 0)
      → less ≡ without_spare may (get_or xs 0 0) → AreSpare less (following xs) ↔ AreSpare may xs
  spare_first less is e = (
    (λ h. subst (AreSpare may) (first_after xs some)
        (spare_apart.1 (is, subst (λ m. AreSpare m (following xs)) e h))),
    (λ h. subst (λ m. AreSpare m (following xs)) (sym e)
        (spare_apart.0 (subst (AreSpare may) (sym (first_after xs some)) h)).1),
  )

  -- if the first size isn't a spare row's, the sizes aren't spare
  pub spare_not : ¬ (IsSpare may (get_or xs 0 0)) → ¬ (AreSpare may xs)
  spare_not lacks h = lacks (spare_apart.0 (subst (AreSpare may) (sym (first_after xs some)) h)).0

-- sizes of spare rows are among the four sizes
pub each_in : (ys : List ℕ) → Each (IsSpare all_spare) ys → Each (λ size. Among size spare_sizes) ys
each_in [] h = tt
each_in (y ∷ ys) h = (one h.0, each_in ys h.1)
  where
    one : IsSpare all_spare y → Among y spare_sizes
    one (inl h) = inl h.0
    one (inr (inl h)) = inr (inl h.0)
    one (inr (inr (inl h))) = inr (inr (inl h.0))
    one (inr (inr (inr h))) = inr (inr (inr (inl h.0)))

-- sizes among the four sizes are sizes of spare rows
pub each_out : (ys : List ℕ) → Each (λ size. Among size spare_sizes) ys
    → Each (IsSpare all_spare) ys
each_out [] h = tt
each_out (y ∷ ys) h = (one h.0, each_out ys h.1)
  where
    one : Among y spare_sizes → IsSpare all_spare y
    one (inl e) = inl (e, refl)
    one (inr (inl e)) = inr (inl (e, refl))
    one (inr (inr (inl e))) = inr (inr (inl (e, refl)))
    one (inr (inr (inr (inl e)))) = inr (inr (inr (e, refl)))
    one (inr (inr (inr (inr n)))) = absurd n
