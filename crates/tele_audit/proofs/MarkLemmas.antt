-- Marks of the words of rows. Serves `marks.claim`.
use Rattle.std.proofs.Common.{◌≡◌, ℕ, ◌+◌, ◌<◌, ◌≤◌, ◌⊎◌, Bool, true, false, List, [], ◌∷◌, length, get_or, inl, inr, arith}
use Rattle.std.proofs.lemmas.Bool.Decides.{leb_tells}
use Rattle.ist_core.specs.LogTerms.{Each}
use Rattle.ist_core.specs.TreeTerms.{Apart}
use Rattle.ist_rest.specs.WordRows.{Span}
use Rattle.ist_rest.specs.Walks.{IsApartFrom}
use Rattle.tele_audit.specs.Auditing.{IsIn, Covered, AreMarked}

module _ (base size : ℕ) (some : 0 < size) where
  -- a row none of whose words is one of the others'
  one_apart : (other : Span) → 0 < other.size → ((k : ℕ) → base ≤ k → k < base + size
      → IsIn other k → ⊥) → Apart other.base other.size base size
  one_apart other big free = grind (arith, leb_tells)

  all_apart : (others : List Span) → Each (λ s. 0 < s.size) others
      → ((k : ℕ) → base ≤ k → k < base + size → Covered others k → ⊥)
      → IsApartFrom others record { base = base; size = size }
  all_apart [] big free = tt
  all_apart (other ∷ others) big free = (
    one_apart other big.0 (λ k a b i. free k a b (inl i)),
    all_apart others big.1 (λ k a b i. free k a b (inr i)),
  )

  -- a word of another row
  pub taken : (others : List Span) (k : ℕ) → base ≤ k → k < base + size → Covered others k
      → IsApartFrom others record { base = base; size = size } → ⊥
  taken [] k a b c h = absurd c
  taken (other ∷ others) k a b (inl c) h = grind arith
  taken (other ∷ others) k a b (inr c) h = taken others k a b c h.1

  -- if a row is marked of which no word was marked, it is apart from the rows read before, and the
  -- marks are right with it
  pub claimed : (old new : List Bool) → base + size ≤ length old → length new ≡ length old
      → ((k : ℕ) → base ≤ k → k < base + size → get_or old k false ≡ false)
      → ((k : ℕ) → base ≤ k → k < base + size → get_or new k false ≡ true)
      → ((k : ℕ) → (k < base) ⊎ (base + size ≤ k) → get_or new k false ≡ get_or old k false)
      → (seen : List Span) → AreMarked old seen
      → IsApartFrom seen record { base = base; size = size }
      × AreMarked new (record { base = base; size = size } ∷ seen)
  claimed old new fits long free inside outside seen h = grind (arith, all_apart, leb_tells)
