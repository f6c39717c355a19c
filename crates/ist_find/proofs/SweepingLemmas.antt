-- Where a sweep of a node begins, what its calls return, and a whole sweep. Serves `sweeping`.
use Rattle.std.proofs.Common.{◌≡◌, ℕ, ◌+◌, ◌≤◌, List, [], ◌++◌, Option, refl, sym, subst, inl, le_refl, append-nil, arith, Result, Ok, Err, ◌⊎◌, ◌∙◌, inr, ⊎_elim, append_assoc}
use Rattle.std.specs.Prelude.{IfSome, OnOk}
use Rattle.ist_core.specs.declared.pairs.Pair.{Pair}
use Rattle.ist_core.specs.WordTerms.{anchor, Ref, InnerAt, start}
use Rattle.ist_core.specs.TreeTerms.{from_anchor, AllGrow}
use Rattle.ist_core.specs.LogTerms.{same_log, Snapshot, Log, GoesOn, EachEnabled, state_of}
use Rattle.ist_core.proofs.AllLogLemmas.{goes_on_more, enabled_before, grow_between, inner_there}
use Rattle.ist_rule.specs.RuleTerms.{GoesOnTo, IsSound}
use Rattle.ist_rule.specs.declared.view.View.{View}
use Rattle.ist_find.specs.Reads.{TellsValue}
use Rattle.ist_find.specs.Spans.{pair_value, IsEdge}
use Rattle.ist_find.specs.Sweeps.{Swept, none_swept, starting, WereLed, HasSwept, SweptBetween, one_of, later_swept, row_swept, slot_swept, entering_loads}
use Rattle.ist_find.specs.Turns.{IsSlotForKey, HasReadEnd, HasSweptSlot, row_below, end_there, HasSweptTo}
use Rattle.ist_find.proofs.LoadLemmas.{goes_log}
use Rattle.ist_find.proofs.SlotSawLemmas.{led_on, were_led_on}

-- ---- at the first slot

-- nothing was swept yet
pub sweeps_none : (v w : View) → GoesOnTo v w → (node first last i count spent : ℕ) (old : List Pair)
    → w.loaded ≤ v.loaded + spent → IsSlotForKey w node first i count → first ≤ last → WereLed v first last node
    → HasSweptTo v w node first first last i count spent old old
sweeps_none v w g node first last i count spent old few a some led = record {
  seen = g;
  at = a;
  from = le_refl first;
  some = some;
  begins = inl refl;
  led = were_led_on v w g first last node led;
  swept = record {
    found = [];
    are = sym (append-nil old);
    sweeps = λ from f led. record {
      at = from;
      until = goes_on_more f (goes_log v w g);
      led = led_on v w g from first last node led;
      row = node;
      under = le_refl node;
      loads = 0;
      few = omega arith;
      swept = none_swept;
    };
  };
}

-- ---- the pair of a slot

-- a pair that was read by loads is appended if it lies between the keys
pub end_read : {A E : Type 0} (v w : View) (first last : ℕ) (ref : Ref) (old new : List Pair)
    → w.loaded ≤ v.loaded + 2 → (pair : Option Pair)
    → ((k : ℕ) → TellsValue v w k ref (pair_value pair k)) → (own : Option Pair)
    → IfSome own (λ p. (first ≤ p.key) × (p.key ≤ last))
    → ((k : ℕ) → first ≤ k → k ≤ last → pair_value own k ≡ pair_value pair k)
    → (r : Result A E) → OnOk r (new ≡ old ++ one_of own)
    → OnOk r (HasReadEnd v w first last ref old new)
end_read v w first last ref old new few pair tells own within same (Err e) pushed = tt
end_read v w first last ref old new few pair tells own within same (Ok x) pushed = record {
  loads = few;
  pair = pair;
  tells = tells;
  own = own;
  within = within;
  same = same;
  pushed = pushed;
}

-- the keys of a slot were swept below its row
pub row_is_swept : {A E : Type 0} (v w : View) (first last base : ℕ) (ref : Ref) (old new : List Pair)
    → ref ≡ InnerAt base → (r : Result A E)
    → OnOk r (HasSwept v w first (last + 1) last base 0 (starting v base first) old new)
    → OnOk r (HasSweptSlot v w first last ref old new)
row_is_swept v w first last base ref old new is (Err e) h = tt
row_is_swept v w first last base ref old new is (Ok x) h = row_below base is h

-- or its end was read
pub end_is_swept : {A E : Type 0} (v w : View) (first last : ℕ) (ref : Ref) (old new : List Pair)
    → (r : Result A E) → OnOk r (HasReadEnd v w first last ref old new)
    → OnOk r (HasSweptSlot v w first last ref old new)
end_is_swept v w first last ref old new (Err e) h = tt
end_is_swept v w first last ref old new (Ok x) h = end_there h

-- ---- a whole sweep

-- each key leads to the anchor
pub anchor_led : (v : View) (first last : ℕ) → WereLed v first last anchor
anchor_led v first last = record { at = v.log; until = same_log; led = λ k low high. from_anchor }

-- so all keys were swept
pub swept_between : {A E : Type 0} (v w : View) → IsSound v → (first last : ℕ) (old new : List Pair)
    (r : Result A E)
    → OnOk r (HasSwept v w first (last + 1) last anchor 0 (starting v anchor first) old new)
    → OnOk r (SweptBetween v w first last old new)
swept_between v w sound first last old new (Err e) h = tt
swept_between v w sound first last old new (Ok x) h =
    let s = h.sweeps v.log same_log (λ k low high. from_anchor) in
    let begun : starting v anchor first ≡ 0 = refl in let few = s.few in let low = s.under in
    let zero_row : s.row ≡ 0 = omega arith in record {
      found = h.found;
      are = h.are;
      at = s.at;
      until = s.until;
      loads = s.loads;
      few = omega arith;
      swept = subst (λ n. Swept w.start w.words first anchor v.log s.at (last + 1) n s.loads h.found)
          zero_row s.swept;
    }

-- ---- what was read slot after slot: where it ends, and how one sweep goes on with another. Serves `sweeping`.

-- an edge stays one when rows grow
edge_grows : (t u : Snapshot) → AllGrow t.pieces u.pieces → (key : ℕ) → IsEdge t key → IsEdge u key
edge_grows t u g key e = grind (arith, inner_there)

module _ (opened : List Pair) (words : ℕ) where
  -- a sweep ends at a later log
  pub swept_on : (first above : ℕ) (from at : Log) (following row loads : ℕ) (found : List Pair)
      → Swept opened words first above from at following row loads found → GoesOn from at
  swept_on first above from _ _ _ _ _ none_swept = same_log
  swept_on first above from _ following row loads found (later_swept {at = at} {later = later} s g) =
      goes_on_more (swept_on first above from at following row loads found s) g
  swept_on first above from at following _ _ found (row_swept {row = row} {loads = loads} base r s p up way) =
      swept_on first above from at following row loads found s
  swept_on first above from _ _ _ _ _ (slot_swept {at = at} {later = later} {low = low} {row = row} {loads = loads} {found = found} pair s b r) =
      goes_on_more (swept_on first above from at low row loads found s) r.on

  -- until a slot that held no row was read, the last row that was entered is the first one or one above
  pub swept_above : (first above : ℕ) (from at : Log) (low row loads : ℕ) (found : List Pair)
      → Swept opened words first above from at low row loads found
      → (first ≤ low) × (low ≡ first → above ≤ row)
  swept_above first above from _ _ _ _ _ none_swept = (le_refl first, λ same. le_refl above)
  swept_above first above from _ low row loads found (later_swept {at = at} s g) =
      swept_above first above from at low row loads found s
  swept_above first above from at low _ _ found (row_swept {row = row} {loads = loads} base r s p up way) =
      let before = swept_above first above from at low row loads found s in
      (before.0, λ same. let least = before.1 same in omega arith)
  swept_above first above from _ _ _ _ _ (slot_swept {at = at} {low = low} {row = row} {loads = loads} {found = found} pair s b r) =
      let before = (swept_above first above from at low row loads found s).0 in let some = r.some in
      (omega arith, λ same. absurd (omega arith))

  -- a sweep from the key at which another one ended goes on with it
  module _ (first above : ℕ) (from middle : Log) (low middle_row loads : ℕ) (before : List Pair)
      (a : Swept opened words first above from middle low middle_row loads before)
      (b : (low ≡ first) ⊎ IsEdge (state_of opened words middle) low) where
    -- a sweep from where the first one ended makes both into one, with the loads and pairs of both
    pub swept_more : (at : Log) (following row more : ℕ) (found : List Pair)
        → EachEnabled (start opened words) at
        → Swept opened words low middle_row middle at following row more found
        → Swept opened words first above from at following row (loads + more) (before ++ found)
    swept_more _ _ _ _ _ h none_swept = let same : loads ≡ loads + 0 = omega arith in
        subst (λ n. Swept opened words first above from middle low middle_row n (before ++ [])) same
        (subst (Swept opened words first above from middle low middle_row loads)
        (sym (append-nil before)) a)
    swept_more _ following row more found h (later_swept {at = at} {later = later} s g) =
        later_swept
        (swept_more at following row more found (enabled_before (start opened words) at later g h) s) g
    swept_more at to _ _ found h (row_swept {row = row} {loads = more} base r s p up way) =
        let same : loads + more + entering_loads r.keys to ≡ loads + (more + entering_loads r.keys to) = omega arith in
        subst (λ n. Swept opened words first above from at to base n (before ++ found)) same
        (row_swept base r (swept_more at to row more found h s) p up way)
    swept_more _ _ _ _ _ h (slot_swept {at = at} {later = later} {low = to} {following = following} {row = row} {loads = more} {found = found} pair s begins r) =
        let enabled = enabled_before (start opened words) at later r.on h in
        let on = swept_on low middle_row middle at to row more found s in
        let same : (to ≡ low) → (to ≡ first) ⊎ IsEdge (state_of opened words at) to =
        λ e. ⊎_elim (λ f. inl (e ∙ f))
        (λ f. inr (subst (IsEdge (state_of opened words at)) (sym e)
        (edge_grows (state_of opened words middle) (state_of opened words at)
        (grow_between opened words middle at enabled on) low f))) b in
        let sum : loads + more + 7 ≡ loads + (more + 7) = omega arith in
        subst (λ n. Swept opened words first above from later following 0 n (before ++ (found ++ one_of pair)))
        sum
        (subst (Swept opened words first above from later following 0 (loads + more + 7))
        (append_assoc before found (one_of pair))
        (slot_swept pair (swept_more at to row more found enabled s) (⊎_elim same (λ f. inr f) begins) r))

-- a sweep's next key is an edge still after more events
pub later_edge : (opened : List Pair) (words : ℕ) (a b : Log) → GoesOn a b
    → EachEnabled (start opened words) b → (key named : ℕ)
    → (key ≡ named) ⊎ IsEdge (state_of opened words a) key
    → (key ≡ named) ⊎ IsEdge (state_of opened words b) key
later_edge opened words a b on h key named e = grind (arith, edge_grows, grow_between)
