-- The finite map of a tree's entries finds what the tree finds. Serves `stating.rt`.
use Rattle.std.proofs.Common.{◌≡◌, ◌∙◌, ℕ, cond, List, [], ◌∷◌, Some, refl, ap, Result, Ok, Err, IfOk, map, arith}
use Rattle.std.proofs.lemmas.Map.Keys.{IsStrictlyIncreasing-from_sorted}
use Rattle.std.specs.List.Sorted.{IsStrictlyIncreasing}
use Rattle.std.specs.Ordering.{nat_cmp}
use Rattle.std.specs.Map.{lookup}
use Rattle.std.specs.BTreeMap as tree
use Rattle.std.specs.BTreeMap.{BTreeMap, is_at}
use Rattle.std.specs.FinMap as fin
use Rattle.std.specs.FinMap.Entries as entries

module _ {X : Type 0} where
  same : (es : List (ℕ × X)) (q : ℕ) → entries.find nat_cmp q es ≡ lookup (is_at (nat_cmp q)) es
  same [] q = refl
  same (e ∷ es) q = ap (cond (is_at (nat_cmp q) e.0) (Some e.1)) (same es q)

  -- a finite map with the entries of a tree finds what the tree finds
  pub found : (m : fin.FinMap nat_cmp X) (t : BTreeMap ℕ X) (q : ℕ) → fin.entries m ≡ t.entries
      → fin.get m q ≡ tree.get nat_cmp t q
  found m t q is = fin.get-entries m q ∙ ap (entries.find nat_cmp q) is ∙ same t.entries q

  -- the keys of an ordered tree's entries are strictly increasing
  pub rising : {V E : Type 0} (r : Result V E) (items : V → List (ℕ × X)) (t : BTreeMap ℕ X)
      → tree.IsOrdered nat_cmp t → IfOk r (λ v. items v ≡ t.entries)
      → IfOk r (λ v. IsStrictlyIncreasing (map (λ e. e.0) (items v)))
  rising (Ok v) items t ordered is = grind (arith, IsStrictlyIncreasing-from_sorted)
  rising (Err e) items t ordered is = tt
