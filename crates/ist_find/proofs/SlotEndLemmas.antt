-- Where the keys of a slot end, and which slot comes next. Serves `sweeping`.
use Rattle.std.proofs.Common.{◌≡◌, ◌≢◌, ℕ, ◌+◌, ◌-◌, ◌<◌, ◌≤◌, List, [], length, get_or, refl, sym, ap, ◌∙◌, subst, ⊎_elim, arith}
use Rattle.std.proofs.lemmas.Bool.{cases_lt}
use Rattle.std.specs.List.Sorted.{IsStrictlyIncreasing}
use Rattle.ist_core.specs.WordTerms.{child_count, anchor, IsChildFor, of_anchor, of_row, InnerAt}
use Rattle.ist_core.specs.LogTerms.{Among}
use Rattle.ist_core.proofs.AllPlaceLemmas.{anchor_free}
use Rattle.ist_math.proofs.ChildLemmas.{child_count_is, child_most, key_before_child}
use Rattle.ist_rule.specs.RuleTerms.{now, GoesOnTo, IsNode, is_anchor, is_inner, IsSound}
use Rattle.ist_rule.specs.declared.view.View.{View}
use Rattle.ist_layout.specs.declared.references.Ref as coded
use Rattle.ist_layout.specs.declared.references.Ref.TheVariants.{Empty, Unset, Leaf, Inner, Change, Rebuild}
use Rattle.ist_layout.specs.Meanings.{ref_meant}
use Rattle.ist_find.specs.Searches.{keys_at}
use Rattle.ist_find.proofs.LoadLemmas.{keys_are, keys_on}

-- the anchor has no keys
pub no_keys : (v : View) → IsSound v → (node : ℕ) → node ≡ anchor → keys_at v node ≡ []
no_keys v s node e = grind (arith, anchor_free)

-- so no key is an edge between its slots
pub one_slot : (v : View) → IsSound v → (node : ℕ) → node ≡ anchor → (key : ℕ)
    → ¬ (Among key (keys_at v node))
one_slot v s node e key among = absurd (subst (Among key) (no_keys v s node e) among)

-- a node's keys stay when the caller goes on by loads
pub node_keys_on : (v w : View) → IsSound v → GoesOnTo v w → (node : ℕ) → IsNode (now v) node
    → keys_at w node ≡ keys_at v node
node_keys_on v w s g node (is_anchor e) = no_keys w g.sound node e ∙ sym (no_keys v s node e)
node_keys_on v w s g node (is_inner r e) = keys_on v w g node record { row = r; published = e }

-- a reference that isn't one to an inner row means none
pub not_inner : (r : coded.Ref) → ((base : ℕ) → r ≢ Inner base) → (base : ℕ) → ref_meant r ≢ InnerAt base
not_inner Empty other base e = cc
not_inner Unset other base e = cc
not_inner (Leaf b) other base e = cc
not_inner (Inner b) other base e = absurd (other b refl)
not_inner (Change b) other base e = cc
not_inner (Rebuild b) other base e = cc

-- the slot for a key is one of the node's
pub slot_within : (v : View) (node key i : ℕ) → IsChildFor (now v) node key i
    → i ≤ length (keys_at v node)
slot_within v node key i (of_anchor e zero) = omega arith
slot_within v node key i (of_row r e is) = let most = child_most r.keys key in
    let same = ap length (keys_are v node record { row = r; published = e }) in omega arith

module _ (keys : List ℕ) (rises : IsStrictlyIncreasing keys) (from i to last : ℕ)
    (is : i ≡ child_count keys from) (under : i < length keys → to < get_or keys i 0) where
  within : i ≤ length keys
  within = subst (λ n. n ≤ length keys) (sym is) (child_most keys from)

  -- the keys up to its end share the slot
  pub slot_shared : (k : ℕ) → from ≤ k → k ≤ to → child_count keys k ≡ i
  slot_shared k low high =
      child_count_is keys k i rises within (λ less. let u = under less in omega arith)
      (λ some. let a = key_before_child keys rises from i is some in omega arith)

  -- and the key after it has the next one
  module _ (most : (k : ℕ) → k ≤ last → (i < length keys → k < get_or keys i 0) → k ≤ to)
      (more : to < last) where
    -- if keys are left after its end, the slot isn't the node's last one
    pub slot_more : i < length keys
    slot_more = grind (arith, cases_lt)

    next_key : to + 1 ≡ get_or keys i 0
    next_key = let u = under slot_more in ⊎_elim
        (λ (l : to + 1 < get_or keys i 0). let no = most (to + 1) (omega arith) (λ x. l) in
        absurd (omega arith))
        (λ (ge : get_or keys i 0 ≤ to + 1). omega arith) (cases_lt (to + 1) (get_or keys i 0))

    -- the slot for the key after its end is the next one
    pub slot_next : child_count keys (to + 1) ≡ i + 1
    slot_next = let less = slot_more in let same = next_key in
        child_count_is keys (to + 1) (i + 1) rises (omega arith)
        (λ l. subst (λ x. x < get_or keys (i + 1) 0) (sym same) (rises i l))
        (λ some. let n : i + 1 - 1 ≡ i = omega arith in
        subst (λ m. get_or keys m 0 ≤ to + 1) (sym n) (omega arith))
