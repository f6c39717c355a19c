-- Which keys have one child of a row, by the keys beside it, while a caller goes on by loads.
-- Serves `spans`.
use Rattle.std.proofs.Common.{◌≡◌, ℕ, ◌-◌, ◌<◌, ◌≤◌, length, get_or, sym, ap, subst, arith}
use Rattle.ist_core.specs.WordTerms.{child_count}
use Rattle.ist_math.proofs.ChildLemmas.{child_count_is, child_most, key_before_child, key_after_child}
use Rattle.ist_rule.specs.RuleTerms.{IsSound, GoesOnTo}
use Rattle.ist_rule.specs.declared.view.View.{View}
use Rattle.ist_find.specs.Searches.{IsRow, keys_at}
use Rattle.ist_find.proofs.LoadLemmas.{row_on, keys_on, keys_rise}

-- the row later: it has the same keys, of which the one before the child isn't above the key, and the one
-- after it is
pub record HasChild (v w : View) (node key i : ℕ) : Type 0 where
  pub row : IsRow w node
  pub keys : keys_at w node ≡ keys_at v node
  pub within : i ≤ length (keys_at w node)
  pub above : 0 < i → get_or (keys_at w node) (i - 1) 0 ≤ key
  pub below : i < length (keys_at w node) → key < get_or (keys_at w node) i 0

module _ {v : View} (s : IsSound v) {node i : ℕ} (r : IsRow v node) (key : ℕ)
    (is : i ≡ child_count (keys_at v node) key) where
  -- the child stays the key's
  pub child_stays : {w : View} → GoesOnTo v w → HasChild v w node key i
  child_stays {w = w} g = let keys = keys_at v node in let same = keys_on v w g node r in
      let size = ap length same in let most = child_most keys key in record {
        row = row_on v w g node r;
        keys = same;
        within = omega arith;
        above = subst (λ ks. 0 < i → get_or ks (i - 1) 0 ≤ key) (sym same)
            (key_before_child keys (keys_rise v s node r) key i is);
        below = subst (λ ks. i < length ks → key < get_or ks i 0) (sym same)
            (key_after_child keys (keys_rise v s node r) key i is);
      }

  -- and all keys between those two keys have this child
  pub between : {u w : View} → GoesOnTo v u → GoesOnTo v w → (low high : ℕ)
      → (0 < i → get_or (keys_at u node) (i - 1) 0 ≤ low)
      → (i < length (keys_at w node) → high < get_or (keys_at w node) i 0)
      → (k : ℕ) → low ≤ k → k ≤ high → child_count (keys_at v node) k ≡ i
  between {u = u} {w = w} g h low high after before k least most =
      let above = subst (λ ks. 0 < i → get_or ks (i - 1) 0 ≤ low) (keys_on v u g node r) after in
      let below = subst (λ ks. i < length ks → high < get_or ks i 0) (keys_on v w h node r) before in
      let within = child_most (keys_at v node) key in
      child_count_is (keys_at v node) k i (keys_rise v s node r) (omega arith)
      (λ less. let b = below less in omega arith) (λ some. let a = above some in omega arith)
