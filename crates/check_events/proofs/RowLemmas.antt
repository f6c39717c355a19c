-- What the code tests of the rows of an event is what the conditions say. Serves `rows.rt` and
-- `pairs.rt`.
use Rattle.std.proofs.Common.{◌≡◌, ◌↔◌, ◌≤◌, ℕ, List, [], ◌∷◌, length, get_or, subst, arith}
use Rattle.ist_core.specs.declared.lists.Row.{Row}
use Rattle.ist_core.specs.WordTerms.{LeafAt, word_of, row_at}
use Rattle.ist_core.specs.LogTerms.{Snapshot, HoldsRow, HoldsRows}
use Rattle.ist_core.specs.TreeTerms.{pair_over}
use Rattle.check_fairness.proofs.AnswerLemmas.{following, split_first}

-- the first row and the others are held
module _ (t : Snapshot) (caller : ℕ) (rows : List Row) (row : Row) (n : 1 ≤ length rows)
    (e : row ≡ get_or rows 0 row) where
  whole : rows ≡ row ∷ following rows
  whole = split_first rows row n e

  -- if the first row is held, all are exactly if the others are
  pub holds_first : HoldsRow t caller row.base (length row.words)
      → HoldsRows t caller (following rows) ↔ HoldsRows t caller rows
  holds_first h = grind (arith, whole)

  -- if the first row isn't held, not all are
  pub lacks_first : ¬ (HoldsRow t caller row.base (length row.words)) → ¬ (HoldsRows t caller rows)
  lacks_first none all = none (subst (HoldsRows t caller) whole all).0

-- ---- pair rows

-- a row with the seven words of a pair row is one
pub pair_over_is : (row : Row) (ws : List ℕ) (base key left right : ℕ) → ws ≡ row.words → length ws
    ≡ 7
    → row.base ≡ base → get_or ws 0 0 ≡ 0 → get_or ws 1 0 ≡ 0 → get_or ws 2 0 ≡ 2 → get_or ws 3 0
    ≡ 2 → get_or ws 4 0 ≡ key → get_or ws 5 0 ≡ word_of (LeafAt left)
    → (get_or ws 6 0 ≡ word_of (LeafAt right)) ↔ (row ≡ row_at base (pair_over key left right))
pair_over_is row [] base key left right is n at w0 w1 w2 w3 w4 w5 = absurd (omega arith)
pair_over_is row (a ∷ []) base key left right is n at w0 w1 w2 w3 w4 w5 = absurd (omega arith)
pair_over_is row (a ∷ b ∷ []) base key left right is n at w0 w1 w2 w3 w4 w5 = absurd (omega arith)
pair_over_is row (a ∷ b ∷ c ∷ []) base key left right is n at w0 w1 w2 w3 w4 w5 = grind arith
pair_over_is row (a ∷ b ∷ c ∷ d ∷ []) base key left right is n at w0 w1 w2 w3 w4 w5 = grind arith
pair_over_is row (a ∷ b ∷ c ∷ d ∷ e ∷ []) base key left right is n at w0 w1 w2 w3 w4 w5 = absurd
    (omega arith)
pair_over_is row (a ∷ b ∷ c ∷ d ∷ e ∷ f ∷ []) base key left right is n at w0 w1 w2 w3 w4 w5 = absurd
    (omega arith)
pair_over_is row (a ∷ b ∷ c ∷ d ∷ e ∷ f ∷ g ∷ []) base key left right is n at w0 w1 w2 w3 w4 w5 =
    grind arith
pair_over_is row (a ∷ b ∷ c ∷ d ∷ e ∷ f ∷ g ∷ h ∷ xs) base key left right is n at w0 w1 w2 w3 w4
    w5 = absurd (omega arith)
