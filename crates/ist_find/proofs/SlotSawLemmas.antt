-- What a caller saw in a slot, for all keys that led to the slot's node. Serves `sweeping`.
use Rattle.std.proofs.Common.{◌≡◌, ◌≢◌, ℕ, ◌+◌, ◌<◌, ◌≤◌, ◌⊎◌, length, Option, Some, None, refl, sym, ap, ◌∙◌, subst, inl, inr, ⊎_elim, arith}
use Rattle.std.specs.Prelude.{IfSome}
use Rattle.std.specs.FinMap as fin
use Rattle.std.proofs.Math.Nat.{le_trans}
use Rattle.ist_core.specs.declared.pairs.Pair.{Pair}
use Rattle.ist_core.specs.declared.states.InnerRow.{InnerRow}
use Rattle.ist_core.specs.LogTerms.{Among, Log, GoesOn, EachEnabled, state_of}
use Rattle.ist_core.specs.WordTerms.{anchor, Ref, Empty, Unset, LeafAt, InnerAt, ChangeAt, RebuildAt, Inner, as_inner, start, IsChildFor}
use Rattle.ist_core.specs.TreeTerms.{IsChild, Leads, down}
use Rattle.ist_core.proofs.AllLogLemmas.{enabled_before, grow_between, inner_there, leads_linked, goes_on_more}
use Rattle.ist_core.proofs.AllPlaceLemmas.{names, child_above, anchor_free}
use Rattle.laws_links.proofs.ContentLemmas.{linked_set}
use Rattle.laws_histories.specs.Loads.{log_at}
use Rattle.laws_histories.specs.Telling.{map_now}
use Rattle.laws_histories.proofs.ChangeLemmas.{at_on, at_same}
use Rattle.laws_histories.proofs.ReadLemmas.{ReadsAs}
use Rattle.laws_histories.proofs.SearchLemmas.{leads_there, there_on}
use Rattle.ist_rule.specs.RuleTerms.{now, GoesOnTo, IsSound, IsNode, is_anchor, is_inner}
use Rattle.ist_rule.specs.declared.view.View.{View}
use Rattle.ist_find.specs.Searches.{keys_at, keys_in}
use Rattle.ist_find.specs.Reads.{IsFoundAs, IsEnd, TellsValue}
use Rattle.ist_find.specs.Spans.{pair_value, IsEdge}
use Rattle.ist_find.specs.Sweeps.{SlotWasRead, AllLed, WereLed, LookedSince}
use Rattle.ist_find.proofs.LoadLemmas.{by_table, goes_log, keys_are}
use Rattle.ist_find.proofs.SlotEndLemmas.{no_keys}
use Rattle.ist_find.proofs.SpanLemmas.{child_on}
use Rattle.ist_find.proofs.SearchLemmas.{child_back, leads_later, saw_since, value_then, had_at}

-- at one moment since the first log all keys up to the last led to the node, and its slot for the
-- keys from `low` to `high` read as the reference
pub record SlotSaw (w : View) (floor : Log) (first last low high node : ℕ) (ref : Ref) : Type 0 where
  pub at : Log
  pub load : ℕ
  pub within : load ≤ length w.log
  pub since : GoesOn floor at
  pub until : GoesOn at (log_at w.log load)
  pub led : AllLed w at first last node
  pub index : ℕ
  -- it is the node's slot for each key from `low` to `high`
  pub for : (k : ℕ) → low ≤ k → k ≤ high → IsChildFor (state_of w.start w.words at) node k index
  pub read : ReadsAs (state_of w.start w.words at) node index (Some ref)

-- ---- where keys were led

-- a node to which a key led is the anchor or a published inner row
pub led_node : (v : View) → IsSound v → (first last node : ℕ) → first ≤ last → WereLed v first last node
    → IsNode (now v) node
led_node v s first last node some h =
    let enabled = enabled_before (start v.start v.words) h.at v.log h.until s.lawful.enabled in
    at (there_on v.start v.words s.lawful.opens first h.at v.log h.until s.lawful.enabled node
    (leads_there v.start v.words s.lawful.opens first h.at enabled node
    (h.led first (omega arith) some)))
  where
    at : (node ≡ anchor) ⊎ ((r : InnerRow) × ((now v).pieces node ≡ Some (Inner r)))
        → IsNode (now v) node
    at (inl e) = is_anchor e
    at (inr e) = is_inner e.0 e.1

-- if keys led to a node after a log, they do so for a caller that goes on by loads
pub led_on : (v w : View) → GoesOnTo v w → (at : Log) (first last node : ℕ) → AllLed v at first last node
    → AllLed w at first last node
led_on v w g at first last node led k low high = grind (arith, by_table)

-- so do keys that were led there at some moment
pub were_led_on : (v w : View) → GoesOnTo v w → (first last node : ℕ) → WereLed v first last node
    → WereLed w first last node
were_led_on v w g first last node h = grind (arith, goes_on_more, goes_log, led_on)

-- ---- the look

-- by a look for one key of a slot it saw the slot for all of them
pub slot_saw : (u w : View) → GoesOnTo u w → (floor : Log) → GoesOn floor u.log
    → (first last low high node i : ℕ) (ref : Ref) → AllLed u floor first last node
    → first ≤ low → low ≤ high → high ≤ last
    → ((k : ℕ) → low ≤ k → k ≤ high → IsChildFor (now u) node k i)
    → LookedSince w low (length floor) node i ref → SlotSaw w floor first last low high node ref
slot_saw u w g floor f first last low high node i ref led from some to child h =
    let s = g.sound.lawful in let begun = goes_on_more f (goes_log u w g) in
    let all = led_on u w g floor first last node led in
    let x = saw_since w.start w.words s.opens w.log s.enabled floor begun low h.last node ref
    (all low from (le_trans some to)) h.look in
    let until = goes_on_more x.until (at_on w.log h.last) in
    let enabled = enabled_before (start w.start w.words) x.at w.log until s.enabled in record {
      at = x.at;
      load = h.last;
      within = h.until;
      since = x.since;
      until = x.until;
      led = λ k least most. leads_later w.start w.words s.opens floor x.at x.since enabled low k node
          (all k least most) x.led;
      index = x.index;
      for = λ k least most. child_back (state_of w.start w.words x.at) (now w)
          (grow_between w.start w.words x.at w.log s.enabled until)
          (anchor_free w.start w.words w.log s.enabled) node low k i x.index x.index_is
          (child_on u w g node low i (child low (omega arith) some))
          (child_on u w g node k i (child k least most));
      read = x.read;
    }

module _ (w : View) (s : IsSound w) (floor : Log) (first last low high node : ℕ) (ref : Ref)
    (from : first ≤ low) (some : low ≤ high) (to : high ≤ last)
    (h : SlotSaw w floor first last low high node ref) where
  -- the caller has seen that moment
  pub saw_until : GoesOn h.at w.log
  saw_until = goes_on_more h.until (at_on w.log h.load)

  -- and the log was lawful then
  pub saw_enabled : EachEnabled (start w.start w.words) h.at
  saw_enabled = enabled_before (start w.start w.words) h.at w.log saw_until s.lawful.enabled

  -- the slot was built
  pub saw_set : ref ≢ Unset
  saw_set e = linked_set w.start w.words s.lawful.opens h.at saw_enabled node h.index h.read.word
      (leads_linked (state_of w.start w.words h.at) low node (h.led low from (le_trans some to)))
      h.read.holds (h.read.reads ∙ ap Some e)

  -- and held no other row than one above the node
  pub saw_child : (base : ℕ) → ref ≡ InnerAt base → IsChild (state_of w.start w.words h.at) node h.index base
  saw_child base e =
      record { word = h.read.word; holds = h.read.holds; reads = h.read.reads ∙ ap Some e }

  -- an inner row that the slot held lies above the node
  pub saw_above : (base : ℕ) → ref ≡ InnerAt base → node < base
  saw_above base e = child_above (state_of w.start w.words h.at) node h.index base
      (names w.start w.words s.lawful.opens h.at saw_enabled) (saw_child base e)

  -- to which the slot's keys led
  pub saw_led : (base : ℕ) → ref ≡ InnerAt base → AllLed w h.at low high base
  saw_led base e k least most =
      down h.index (h.led k (le_trans from least) (le_trans most to)) (h.for k least most)
      (saw_child base e)

-- what the slot held is an end if it isn't a row
pub saw_end : (w : View) (ref : Ref) → ref ≢ Unset → ((base : ℕ) → ref ≢ InnerAt base) → IsFoundAs w ref
    → IsEnd w ref
saw_end w Empty set other f = tt
saw_end w Unset set other f = absurd (set refl)
saw_end w (LeafAt base) set other f = f
saw_end w (InnerAt base) set other f = absurd (other base refl)
saw_end w (ChangeAt base) set other f = absurd f
saw_end w (RebuildAt base) set other f = absurd f

-- ---- what was read

-- each key of the slot had what the pair gives it
pub saw_pair : (w x : View) → GoesOnTo w x → (floor : Log) (first last low high node : ℕ) (ref : Ref)
    → first ≤ low → low ≤ high → high ≤ last
    → (h : SlotSaw w floor first last low high node ref) (pair own : Option Pair)
    → ((k : ℕ) → TellsValue w x k ref (pair_value pair k))
    → IfSome own (λ p. (low ≤ p.key) × (p.key ≤ high))
    → ((k : ℕ) → low ≤ k → k ≤ high → pair_value own k ≡ pair_value pair k)
    → SlotWasRead x.start x.words floor h.at low (high + 1) own
saw_pair w x g floor first last low high node ref from some to h pair own tells within same =
    record {
      on = h.since;
      some = omega arith;
      within = inside own within;
      values = λ k least most. let up : k ≤ high = omega arith in
          had_at x.start x.words floor h.at h.since k (pair_value own k)
          (same k least up ∙ value k least up);
    }
  where
    inside : (o : Option Pair) → IfSome o (λ p. (low ≤ p.key) × (p.key ≤ high))
        → IfSome o (λ p. (low ≤ p.key) × (p.key < high + 1))
    inside None i = tt
    inside (Some p) i = let more = i.1 in (i.0, omega arith)

    value : (k : ℕ) → low ≤ k → k ≤ high
        → pair_value pair k ≡ fin.get (map_now x.start x.words h.at) k
    value k least up = let s = g.sound.lawful in
        value_then x.start x.words s.opens x.log s.enabled h.at k h.load node h.index ref
        (pair_value pair k)
        (subst (GoesOn h.at) (sym (at_same w.log x.log (goes_log w x g) h.load h.within)) h.until)
        (by_table w x g (λ p n. Leads (state_of p n h.at) k node)
        (h.led k (le_trans from least) (le_trans up to)))
        (by_table w x g (λ p n. IsChildFor (state_of p n h.at) node k h.index) (h.for k least up))
        (by_table w x g (λ p n. ReadsAs (state_of p n h.at) node h.index (Some ref)) h.read)
        ((tells k).has h.load h.within)

-- ---- edges

-- a key of the node's row was one wherever some key led to the node
pub key_then : (v : View) → IsSound v → (at : Log) → GoesOn at v.log → (one node key : ℕ)
    → Leads (state_of v.start v.words at) one node → Among key (keys_at v node)
    → Among key (keys_in (as_inner ((state_of v.start v.words at).pieces node)))
key_then v s at g one node key led among = ⊎_elim
    (λ (e : node ≡ anchor). absurd (subst (Among key) (no_keys v s node e) among))
    (λ r. let on = inner_there (state_of v.start v.words at).pieces (now v).pieces
    (grow_between v.start v.words at v.log s.lawful.enabled g) node r.0 r.1 in
    subst (Among key)
    (keys_are v node record { row = on.0; published = on.1 } ∙ on.2.keys
    ∙ sym (ap (λ p. keys_in (as_inner p)) r.1)) among)
    (leads_there v.start v.words s.lawful.opens one at
    (enabled_before (start v.start v.words) at v.log g s.lawful.enabled) node led)

-- a key of the node's row is an edge wherever some key led to the node
pub edge_then : (v : View) → IsSound v → (at : Log) → GoesOn at v.log → (one node key : ℕ)
    → Leads (state_of v.start v.words at) one node → Among key (keys_at v node)
    → IsEdge (state_of v.start v.words at) key
edge_then v s at g one node key led among = ⊎_elim
    (λ (e : node ≡ anchor). absurd (subst (Among key) (no_keys v s node e) among))
    (λ r. let on = inner_there (state_of v.start v.words at).pieces (now v).pieces
    (grow_between v.start v.words at v.log s.lawful.enabled g) node r.0 r.1 in
    record {
      base = node;
      row = r.0;
      published = r.1;
      among = subst (Among key) (keys_are v node record { row = on.0; published = on.1 } ∙ on.2.keys)
          among;
    })
    (leads_there v.start v.words s.lawful.opens one at
    (enabled_before (start v.start v.words) at v.log g s.lawful.enabled) node led)
