-- One slot more of a node that a caller sweeps. Serves `sweeping`.
use Rattle.std.proofs.Common.{◌≡◌, ℕ, ◌+◌, ◌<◌, ◌≤◌, ◌⊎◌, List, ◌++◌, length, Some, refl, sym, ap, ◌∙◌, subst, inl, inr, ⊎_elim, le_refl, append_assoc, arith}
use Rattle.std.proofs.Math.Nat.{le_trans}
use Rattle.ist_core.specs.declared.pairs.Pair.{Pair}
use Rattle.ist_core.specs.declared.states.InnerRow.{InnerRow}
use Rattle.ist_core.specs.WordTerms.{child_count, Inner, anchor, Ref, InnerAt, start}
use Rattle.ist_core.specs.LogTerms.{Among, Log, GoesOn, state_of}
use Rattle.ist_core.specs.TreeTerms.{IsChild, Leads}
use Rattle.ist_core.proofs.AllLogLemmas.{enabled_before, grow_between, inner_there, goes_on_length, goes_on_more as log_goes_on}
use Rattle.laws_histories.proofs.SearchLemmas.{leads_there}
use Rattle.ist_math.specs.Guess.{guess_in, distance}
use Rattle.ist_rule.specs.RuleTerms.{now, GoesOnTo, IsSound}
use Rattle.ist_rule.specs.declared.view.View.{View}
use Rattle.ist_rule.proofs.EventLemmas.{goes_on_more}
use Rattle.ist_find.specs.Searches.{IsRow, keys_at}
use Rattle.ist_find.specs.Reads.{IsFoundAs}
use Rattle.ist_find.specs.Spans.{IsEdge}
use Rattle.ist_find.specs.Sweeps.{Swept, later_swept, row_swept, slot_swept, IsEnteredAt, entering_loads, starting, AllLed, HasSwept, one_of}
use Rattle.ist_find.specs.Turns.{HasReadSlot, LeadsBelow, HasReadEnd, HasSweptSlot, row_below, end_there, HasSweptTo}
use Rattle.ist_find.proofs.LoadLemmas.{by_table, goes_log, keys_are, not_anchor}
use Rattle.ist_find.proofs.PlaceLemmas.{row_starts}
use Rattle.ist_find.proofs.SlotEndLemmas.{node_keys_on}
use Rattle.ist_find.proofs.SpanLemmas.{node_later, child_on}
use Rattle.ist_find.proofs.SearchLemmas.{leads_later, leads_above}
use Rattle.ist_find.proofs.SweepingLemmas.{swept_on, swept_above, swept_more, later_edge}
use Rattle.ist_find.proofs.SlotSawLemmas.{SlotSaw, slot_saw, led_on, were_led_on, saw_until, saw_led, saw_child, saw_above, saw_set, saw_end, saw_pair, edge_then, key_then}

-- ---- one slot more

-- a slot begins at the first key or at an edge
begins_at : (v : View) → IsSound v → (at : Log) → GoesOn at v.log → (first last low node : ℕ)
    → first ≤ last → AllLed v at first last node → (low ≡ first) ⊎ Among low (keys_at v node)
    → (low ≡ first) ⊎ IsEdge (state_of v.start v.words at) low
begins_at v s at g first last low node some led b = grind (arith, edge_then)

-- the keys of a row were the same at an earlier moment at which some key led to it
keys_then : (v : View) → IsSound v → (at : Log) → GoesOn at v.log → (key base : ℕ) → IsRow v base
    → Leads (state_of v.start v.words at) key base
    → (r : InnerRow) × ((state_of v.start v.words at).pieces base ≡ Some (Inner r))
    × (keys_at v base ≡ r.keys)
keys_then v s at g key base row led =
    ⊎_elim (λ (e : base ≡ anchor). absurd (not_anchor v s base row e))
    (λ r. let on = inner_there (state_of v.start v.words at).pieces (now v).pieces
    (grow_between v.start v.words at v.log s.lawful.enabled g) base r.0 r.1 in
    (r.0, r.1, keys_are v base record { row = on.0; published = on.1 } ∙ on.2.keys))
    (leads_there v.start v.words s.lawful.opens key at
    (enabled_before (start v.start v.words) at v.log g s.lawful.enabled) base led)

-- the sweep that began at the view `v` is at the view `u`, and has read the slot up to the view `w`
module _ (v u w : View) (node first low high last i count spent : ℕ) (ref : Ref) (old mid : List Pair)
    (h : HasSweptTo v u node first low last i count spent old mid)
    (r : HasReadSlot u w node low high last i count ref) where
  -- if the keys were led to the node, it saw the slot at a later moment
  saw_after : (at : Log) → GoesOn at u.log → AllLed u at first last node
      → SlotSaw w at first last low high node ref
  saw_after at f led =
      slot_saw u w r.seen at f first last low high node i ref led h.from r.ends.some r.ends.top r.ends.share
      (r.looked low (length at) (goes_on_length f) (r.ends.share low (le_refl low) r.ends.some))

  -- it saw a row above the node, to which the slot's keys were led, or an end
  pub slot_leads : LeadsBelow w node low high ref
  slot_leads = let saw = saw_after h.led.at h.led.until h.led.led in let s = r.seen.sound in
      record {
        inner = λ base e. (
          saw_above w s h.led.at first last low high node ref h.from r.ends.some r.ends.top saw base e,
          not_anchor w s base (subst (IsFoundAs w) e r.found),
          record {
            at = saw.at;
            until = saw_until w s h.led.at first last low high node ref h.from r.ends.some r.ends.top saw;
            led = saw_led w s h.led.at first last low high node ref h.from r.ends.some r.ends.top saw base e;
          },
        );
        end = λ other. saw_end w ref
            (saw_set w s h.led.at first last low high node ref h.from r.ends.some r.ends.top saw) other
            r.found;
      }

  module _ (x : View) (new : List Pair) (d : GoesOnTo w x) where
    -- an end: one pair at most was appended
    one_end : HasReadEnd w x low high ref mid new
        → HasSwept v x first (high + 1) last node 0 spent old new
    one_end e = record {
      found = h.swept.found ++ one_of e.own;
      are = e.pushed ∙ ap (λ xs. xs ++ one_of e.own) h.swept.are
          ∙ append_assoc old h.swept.found (one_of e.own);
      sweeps = λ began f led. let s = h.swept.sweeps began f led in
          let saw = saw_after s.at s.until s.led in
          let b = begins_at u h.seen.sound s.at s.until first last low node (le_trans h.from h.some) s.led
          h.begins in
          let on = goes_on_more u w x r.seen d in let few = s.few in let five = r.loads in
          let two = e.loads in record {
            at = saw.at;
            until = log_goes_on (saw_until w r.seen.sound s.at first last low high node
                ref h.from r.ends.some r.ends.top saw) (goes_log w x d);
            led = led_on w x d saw.at first last node saw.led;
            row = 0;
            under = omega arith;
            loads = s.loads + 7;
            few = omega arith;
            swept = slot_swept e.own
                (by_table u x on (λ p n. Swept p n first node began s.at low s.row s.loads h.swept.found)
                s.swept)
                (by_table u x on (λ p n. (low ≡ first) ⊎ IsEdge (state_of p n s.at) low) b)
                (saw_pair w x d s.at first last low high node ref h.from r.ends.some r.ends.top saw
                e.pair e.own e.tells e.within e.same);
          };
    }

    -- a row: all keys of the slot were swept below it
    one_row : (base : ℕ) → ref ≡ InnerAt base
        → HasSwept w x low (high + 1) high base 0 (starting w base low) mid new
        → HasSwept v x first (high + 1) last node 0 spent old new
    one_row base is below = record {
      found = h.swept.found ++ below.found;
      are = below.are ∙ ap (λ xs. xs ++ below.found) h.swept.are
          ∙ append_assoc old h.swept.found below.found;
      sweeps = λ began f led. let s = h.swept.sweeps began f led in
          let saw = saw_after s.at s.until s.led in
          let row : IsRow w base = subst (IsFoundAs w) is r.found in
          let until = saw_until w r.seen.sound s.at first last low high node ref h.from r.ends.some
          r.ends.top saw in
          let b = begins_at u h.seen.sound s.at s.until first last low node (le_trans h.from h.some) s.led
          h.begins in
          let e = goes_on_more u w x r.seen d in
          let under = saw_led w r.seen.sound s.at first last low high node ref h.from r.ends.some
          r.ends.top saw base is in
          let y = below.sweeps saw.at until under in let sx = d.sound.lawful in
          let enabled = enabled_before (start x.start x.words) y.at x.log y.until sx.enabled in
          let on = swept_on x.start x.words low base saw.at y.at (high + 1) y.row y.loads below.found
          y.swept in
          let was = enabled_before (start x.start x.words) saw.at y.at on enabled in
          let hung = by_table w x d (λ p n. IsChild (state_of p n saw.at) node saw.index base)
          (saw_child w r.seen.sound s.at first last low high node ref h.from r.ends.some r.ends.top saw
          base is) in
          let back = leads_above x.start x.words sx.opens saw.at y.at on enabled low node saw.index base
          (not_anchor w r.seen.sound base row) hung (y.led low (le_refl low) r.ends.some) in
          let all = led_on w x d saw.at first last node saw.led in
          let before = by_table u x e
          (λ p n. Swept p n first node began s.at low s.row s.loads h.swept.found) s.swept in
          let edge = by_table u x e (λ p n. (low ≡ first) ⊎ IsEdge (state_of p n s.at) low) b in
          let up = saw_above w r.seen.sound s.at first last low high node ref h.from r.ends.some
          r.ends.top saw base is in
          let keys = keys_then w r.seen.sound saw.at until low base row
          (under low (le_refl low) r.ends.some) in
          let there = by_table w x d (λ p n. (state_of p n saw.at).pieces base ≡ Some (Inner keys.0))
          keys.1 in
          let cost = ap (λ ks. distance (guess_in ks low) (child_count ks low)) keys.2 in
          let begun = row_starts w base low (not_anchor w r.seen.sound base row) in
          let entered : entering_loads keys.0.keys low
          ≡ distance (guess_in keys.0.keys low) (child_count keys.0.keys low) + 11 = refl in
          let limit = s.under in let few = s.few in let five = r.loads in let more = y.few in
          let least = (swept_above u.start u.words first node began s.at low s.row s.loads
          h.swept.found s.swept).1 in
          let way = by_table w x d (λ p n. IsEnteredAt (state_of p n saw.at) low s.row base)
          record {
            parent = node;
            led = saw.led low h.from (le_trans r.ends.some r.ends.top);
            index = saw.index;
            for = saw.for low (le_refl low) r.ends.some;
            child = saw_child w r.seen.sound s.at first last low high node ref h.from r.ends.some
                r.ends.top saw base is;
            begins = ⊎_elim (λ f. inl (let some = least f in omega arith))
                (λ a. inr (key_then w r.seen.sound saw.at until low node low
                (saw.led low h.from (le_trans r.ends.some r.ends.top))
                (subst (Among low) (sym (node_keys_on u w h.seen.sound r.seen node h.at.node_is)) a)))
                h.begins;
          } in
          record {
            at = y.at;
            until = y.until;
            led = λ k least most. leads_later x.start x.words sx.opens saw.at y.at on enabled low k node
                (all k least most) back;
            row = y.row;
            under = y.under;
            loads = s.loads + entering_loads keys.0.keys low + y.loads;
            few = omega arith;
            swept = swept_more x.start x.words first node began saw.at low base
                (s.loads + entering_loads keys.0.keys low) h.swept.found
                (row_swept base keys.0 (later_swept before saw.since) there (omega arith) way)
                (later_edge x.start x.words s.at saw.at saw.since was low first edge)
                y.at (high + 1) y.row y.loads below.found enabled y.swept;
          };
    }

    -- so the keys up to the end of the slot were swept
    pub one_more : HasSweptSlot w x low high ref mid new
        → HasSwept v x first (high + 1) last node 0 spent old new
    one_more (row_below base is below) = one_row base is below
    one_more (end_there e) = one_end e

    -- and the sweep goes on with the next slot, if more keys are left
    pub goes_on_after : HasSweptSlot w x low high ref mid new → high < last
        → HasSweptTo v x node first (high + 1) last (i + 1) count spent old new
    goes_on_after e more = let on = goes_on_more u w x r.seen d in
        let keys = node_keys_on u x h.seen.sound on node h.at.node_is in let from = h.from in
        let least = r.ends.some in record {
          seen = goes_on_more v u x h.seen on;
          at = record {
            node_is = node_later u x on node h.at.node_is;
            count_is = h.at.count_is ∙ sym (ap length keys);
            child = child_on u x on node (high + 1) (i + 1) (r.ends.next more);
          };
          from = omega arith;
          some = omega arith;
          begins = inr (subst (Among (high + 1)) (sym keys) (r.ends.edge more));
          led = were_led_on u x on first last node h.led;
          swept = under_node (one_more e);
        }
      where
        under_node : HasSwept v x first (high + 1) last node 0 spent old new
            → HasSwept v x first (high + 1) last node node spent old new
        under_node y = grind arith
