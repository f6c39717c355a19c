-- The slot of a key in a node: it stays the key's slot, and where its keys end. Serves `children`
-- and `sweeping`.
use Rattle.std.proofs.Common.{◌≡◌, ◌≢◌, ℕ, ◌+◌, ◌<◌, ◌≤◌, length, get_or, sym, ap, ◌∙◌, le_refl, arith}
use Rattle.std.proofs.Math.Nat.{le_trans}
use Rattle.std.proofs.lemmas.Bool.Decides.{eqb_tells}
use Rattle.ist_core.specs.WordTerms.{child_count, anchor, Ref, IsChildFor}
use Rattle.ist_core.specs.LogTerms.{Among}
use Rattle.ist_math.specs.Guess.{guess_in, distance}
use Rattle.ist_math.proofs.ChildLemmas.{key_after_child}
use Rattle.ist_rule.specs.RuleTerms.{IsSound, now, GoesOnTo, is_inner}
use Rattle.ist_rule.specs.declared.view.View.{View}
use Rattle.ist_rule.proofs.EventLemmas.{goes_on_more}
use Rattle.ist_find.specs.Searches.{IsRow, keys_at}
use Rattle.ist_find.specs.Reads.{IsFoundAs}
use Rattle.ist_find.specs.Sweeps.{LookedSince, starting}
use Rattle.ist_find.specs.Turns.{IsSlotForKey, SlotEnds, HasReadSlot}
use Rattle.ist_find.proofs.LoadLemmas.{goes_length, row_on, keys_on, keys_rise, count_on, child_is}
use Rattle.ist_find.proofs.SpanLemmas.{anchor_child, node_row, row_child, node_later, child_on}
use Rattle.ist_find.proofs.SlotEndLemmas.{no_keys, node_keys_on, slot_shared, slot_more, slot_next}

-- ---- the slot of a key

-- it stays the key's slot when the caller goes on by loads
pub at_on : (v w : View) → IsSound v → GoesOnTo v w → (node key i count : ℕ) → IsSlotForKey v node key i count
    → IsSlotForKey w node key i count
at_on v w s g node key i count a = record {
  node_is = node_later v w g node a.node_is;
  count_is = a.count_is ∙ sym (ap length (node_keys_on v w s g node a.node_is));
  child = child_on v w g node key i a.child;
}

-- the anchor has one slot, and no keys
pub anchor_at : (v : View) → IsSound v → (node key : ℕ) → node ≡ anchor → IsSlotForKey v node key 0 0
anchor_at v s node key e = grind (arith, no_keys)

-- in a row it is the number of the row's keys that are at most the key
pub row_at : (v u w : View) → GoesOnTo v u → GoesOnTo u w → (node key i count : ℕ) → IsRow v node
    → count ≡ length (keys_at v node) → i ≡ child_count (keys_at u node) key → IsSlotForKey w node key i count
row_at v u w g h node key i count r long is = let there = row_on v u g node r in
    let later = row_on u w h node there in record {
      node_is = is_inner later.row later.published;
      count_is = count_on v w (goes_on_more v u w g h) node r count long;
      child = child_is w node later key i
          (is ∙ ap (λ ks. child_count ks key) (sym (keys_on u w h node there)));
    }

-- what it takes to find the first slot of a row
pub row_starts : (v : View) (node key : ℕ) → node ≢ anchor
    → starting v node key ≡ distance (guess_in (keys_at v node) key) (child_count (keys_at v node) key) + 6
row_starts v node key other = grind (arith, eqb_tells)

-- and it takes few loads to find it
pub few_to_start : (v w : View) → GoesOnTo v w → (node key i count loads : ℕ) → node ≢ anchor → IsRow v node
    → IsSlotForKey w node key i count → loads ≤ distance (guess_in (keys_at v node) key) i + 6
    → loads ≤ starting v node key
few_to_start v w g node key i count loads other r a few =
    grind (arith, row_child, keys_on, row_starts)

-- ---- where its keys end

-- all keys share the slot of the anchor
pub anchor_ends : (v : View) → IsSound v → (node key last i count : ℕ) → node ≡ anchor
    → IsSlotForKey v node key i count → key ≤ last → SlotEnds v node key last last i count
anchor_ends v s node key last i count e a some = record {
  some = some;
  top = le_refl last;
  share = λ k low high. anchor_child v s node key k i e a.child;
  edge = λ more. absurd (omega arith);
  next = λ more. absurd (omega arith);
  within = λ more. absurd (omega arith);
}

-- those of a row end below the key after its child
pub keys_end : (v : View) → IsSound v → (node key end last i count : ℕ) → node ≢ anchor
    → IsSlotForKey v node key i count → key ≤ last → end ≤ last
    → (i < length (keys_at v node) → end < get_or (keys_at v node) i 0)
    → (end < last → Among (end + 1) (keys_at v node))
    → ((k : ℕ) → k ≤ last → (i < length (keys_at v node) → k < get_or (keys_at v node) i 0) → k ≤ end)
    → SlotEnds v node key end last i count
keys_end v s node key end last i count other a some top under edge most =
    let keys = keys_at v node in let row = node_row v node other a.node_is in
    let rises = keys_rise v s node row in let is = row_child v node key i other a.child in record {
      some = most key some (key_after_child keys rises key i is);
      top = top;
      share = λ k low high. child_is v node row k i
          (sym (slot_shared keys rises key i end last is under k low high));
      edge = edge;
      next = λ more. child_is v node row (end + 1) (i + 1)
          (sym (slot_next keys rises key i end last is under most more));
      within = λ more. let less = slot_more keys rises key i end last is under most more in
          let long = a.count_is in omega arith;
    }

-- ---- a read of it

-- where a slot ends, and then what it reads as, is a read of the slot
pub slot_read : (v u w : View) → GoesOnTo v u → GoesOnTo u w → u.loaded ≤ v.loaded + 1
    → w.loaded ≤ u.loaded + 4 → (node key end last i count : ℕ) (ref : Ref)
    → SlotEnds v node key end last i count
    → ((k least : ℕ) → least ≤ length u.log → IsChildFor (now u) node k i
    → LookedSince w k least node i ref)
    → IsFoundAs w ref → HasReadSlot v w node key end last i count ref
slot_read v u w g h one four node key end last i count ref ends look found = record {
  seen = goes_on_more v u w g h;
  loads = omega arith;
  ends = ends;
  looked = λ k least low child.
      look k least (le_trans low (goes_length v u g)) (child_on v u g node k i child);
  found = found;
}
