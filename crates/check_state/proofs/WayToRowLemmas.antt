-- The way to a row is the way to the node above it, narrowed. Serves `ways.rt`.
use Rattle.std.proofs.Common.{◌≡◌, ◌↔◌, ◌≢◌, ◌∙◌, ◌⊎◌, ◌≤◌, ◌<◌, ◌-◌, ◌^◌, ℕ, max, min, List, Some, refl, ap, subst, inl, inr, ⊎_elim, arith, true, false, eqb, Option, sym}
use Rattle.std.specs.Ordering.{nat_cmp}
use Rattle.std.specs.BTreeMap.{BTreeMap}
use Rattle.std.specs.List.Sorted.{IsStrictlyIncreasing}
use Rattle.ist_core.specs.declared.pairs.Pair.{Pair}
use Rattle.ist_core.specs.declared.states.InnerRow.{InnerRow}
use Rattle.ist_core.specs.WordTerms.{child_count, anchor, Inner, IsChildFor, of_anchor, of_row}
use Rattle.ist_core.specs.LogTerms.{Snapshot, Log, state, Lawful, state_of}
use Rattle.ist_core.specs.TreeTerms.{WasLinked, WasLedTo, WasOnChain, IsChild}
use Rattle.ist_core.proofs.AllPlaceLemmas.{keys_rising, next_from_rising}
use Rattle.ist_core.proofs.AllWordLemmas.{same_inner}
use Rattle.check_events.specs.declared.pasts.Slot.{Slot}
use Rattle.check_events.specs.declared.pasts.RowWay.{RowWay}
use Rattle.check_events.specs.Remembering.{KnowsSlots, IsWay}
use Rattle.check_events.specs.Ways.{Climbs, at_top, up, here, higher, KeysStay}
use Rattle.check_events.proofs.WayUpLemmas.{linked_in, linked_out, climbs_is, comes_is}
use Rattle.check_events.proofs.DecisionLemmas.{climbs_on, comes_low, comes_high, comes_via}
use Rattle.check_state.specs.Hanging.{HasSlot, AddsSlots, HangsOnce}
use Rattle.check_state.proofs.WayTableLemmas.{same_or_not}
use Rattle.std.proofs.lemmas.Bool.Decides.{eqb_tells}
use Rattle.std.proofs.lemmas.Option.{same_Some}
use Rattle.check_builds.proofs.TableLemmas.{updated_here, updated_other}
use Rattle.std.specs.BTreeMap as tree

module _ (first : Snapshot) (log : Log) (slots : BTreeMap ℕ Slot) (k : KnowsSlots slots first log) where
  -- a row is on its own chain
  on_own_chain : (node : ℕ) → node ≢ anchor → WasLinked first log node → WasOnChain first log node node
  on_own_chain node far linked = let it = linked_in first log slots k node far linked in
      (comes_is first log slots k node node).0 (here it.0 it.1)

  -- what is on the chain of the node is on the chain of a row in its slot
  on_longer_chain : (node index row at : ℕ) → HasSlot slots node index row → WasOnChain first log node at
      → WasOnChain first log row at
  on_longer_chain node index row at e on = (comes_is first log slots k row at).0
      (higher record { node = node; index = index } e ((comes_is first log slots k node at).1 on))

  -- what is on the chain of a row on the chain is on the chain
  on_chain_of : (node by at : ℕ) → WasOnChain first log node by → WasOnChain first log by at
      → WasOnChain first log node at
  on_chain_of node by at on above = let up = (comes_is first log slots k by at).1 above in
      (comes_is first log slots k node at).0
      ((comes_via slots k.rises at by node (comes_low slots k.rises at by up)
      ((comes_is first log slots k node by).1 on)).0 up)

  -- a row may jump to the node in whose slot it hangs
  pub jumps_to_node : (node index row : ℕ) → WasLinked first log node → HasSlot slots node index row
      → (node ≡ anchor) ⊎ WasOnChain first log row node
  jumps_to_node node index row linked e = grind (arith, on_longer_chain, on_own_chain, same_or_not)

  -- a row may jump to where the jump of the node's jump leads
  pub jumps_twice : (node index row by at : ℕ) → HasSlot slots node index row
      → (by ≡ anchor) ⊎ WasOnChain first log node by → (at ≡ anchor) ⊎ WasOnChain first log by at
      → (at ≡ anchor) ⊎ WasOnChain first log row at
  jumps_twice node index row by at e one two = ⊎_elim (λ a. inl a)
      (λ above. ⊎_elim
      (λ b. let up = (comes_is first log slots k by at).1 above in
      let low = comes_low slots k.rises at by up in
      let high = comes_high slots k.rises at by up in absurd (omega arith))
      (λ on. inr (on_longer_chain node index row at e (on_chain_of node by at on above))) one) two

  -- a key leads to a row exactly if it leads to the node and is a key of the child
  led_by : KeysStay first log → (node index row key : ℕ) → HasSlot slots node index row
      → row ≢ anchor → (IsChildFor (state first log) node key index × WasLedTo first log key node)
      ↔ WasLedTo first log key row
  led_by stay node index row key e far = (
    (λ h. (climbs_is first log slots k stay key row).0
        ((climbs_on slots row record { node = node; index = index } e (state first log) key far h.0).0
        ((climbs_is first log slots k stay key node).1 h.1))),
    (λ led. at ((climbs_is first log slots k stay key row).1 led)),
  )
    where
      at : Climbs slots (state first log) key row
          → IsChildFor (state first log) node key index × WasLedTo first log key node
      at climbs = out row climbs far e
        where
          out : (n : ℕ) → Climbs slots (state first log) key n → n ≢ anchor
              → tree.get nat_cmp slots n ≡ Some record { node = node; index = index }
              → IsChildFor (state first log) node key index × WasLedTo first log key node
          out _ at_top f g = absurd (f refl)
          out _ (up s i g h) f j =
              let same : s ≡ record { node = node; index = index } = cc in (
                subst (λ y. IsChildFor (state first log) y.node key y.index) same g,
                (climbs_is first log slots k stay key node).0
                    (subst (λ y. Climbs slots (state first log) key y.node) same h),
              )

  no_anchor : (node index row : ℕ) → HasSlot slots node index row → row ≢ anchor
  no_anchor node index row e = grind arith

  -- the way to a row in the anchor's slot
  pub top_is : KeysStay first log → (index row : ℕ) (way : RowWay) → index ≡ 0
      → HasSlot slots anchor index row
      → way.low ≡ 0 → way.high ≡ 2 ^ 64 - 1 → way.jump ≡ anchor → IsWay first log row way
  top_is stay index row way is e low high jump = record {
    linked = linked_out first log slots k row record { node = anchor; index = index } e;
    led = λ key word. (
      (λ led. (omega arith, omega arith)),
      (λ span. (led_by stay anchor index row key e (no_anchor anchor index row e)).0 (
        of_anchor refl is,
        (climbs_is first log slots k stay key anchor).0 at_top,
      )),
    );
    jump = inl jump;
  }

  -- the way to a row in a slot of an inner row
  pub below_is : KeysStay first log → (node index row : ℕ) (above way : RowWay) (r : InnerRow)
      → node ≢ anchor → HasSlot slots node index row → IsWay first log node above
      → (state first log).pieces node ≡ Some (Inner r)
      → ((key : ℕ) → key < 2 ^ 64
      → ((index ≡ child_count r.keys key) × (above.low ≤ key) × (key ≤ above.high))
      ↔ ((way.low ≤ key) × (key ≤ way.high)))
      → (way.jump ≡ anchor) ⊎ WasOnChain first log row way.jump → IsWay first log row way
  below_is stay node index row above way r far e top published span jump = record {
    linked = linked_out first log slots k row record { node = node; index = index } e;
    led = λ key word. (
      (λ led. let it = (led_by stay node index row key e (no_anchor node index row e)).1 led in
          let over = (top.led key word).0 it.1 in
          (span key word).0 (child_at key it.0, over.0, over.1)),
      (λ s. let it = (span key word).1 s in
          (led_by stay node index row key e (no_anchor node index row e)).0
          (of_row r published it.0, (top.led key word).1 (it.1, it.2))),
    );
    jump = jump;
  }
    where
      child_at : (key : ℕ) → IsChildFor (state first log) node key index → index ≡ child_count r.keys key
      child_at key (of_anchor a b) = absurd (far a)
      child_at key (of_row q p i) = grind (arith, same_inner)

-- after a lawful log the keys of an inner row are strictly increasing
pub row_rises : (pairs : List Pair) (words : ℕ) (log : Log) → Lawful pairs words log → (node : ℕ)
    (r : InnerRow) → (state_of pairs words log).pieces node ≡ Some (Inner r)
    → IsStrictlyIncreasing r.keys
row_rises pairs words log lawful node r e =
    next_from_rising r.keys (keys_rising pairs words lawful.opens log lawful.enabled node (Inner r) e)

-- the keys from the greater of two lower ends to the smaller of two upper ends are the keys in both
-- intervals
pub narrowed : (low high from to lower upper : ℕ) (P : ℕ → Type 0) → lower ≡ max low from
    → upper ≡ min high to → ((key : ℕ) → key < 2 ^ 64 → P key ↔ ((from ≤ key) × (key ≤ to)))
    → (key : ℕ) → key < 2 ^ 64
    → (P key × (low ≤ key) × (key ≤ high)) ↔ ((lower ≤ key) × (key ≤ upper))
narrowed low high from to lower upper P l u span key word = grind arith

-- ---- slots of rows that are added to a table one after another: together they are the slots of the
-- rows that hang. Serves `linking.rt`.

module _ (t : Snapshot) where
  -- ---- some slots

  -- nothing is added
  pub adds_none : (slots : BTreeMap ℕ Slot) (P : ℕ → ℕ → ℕ → Type 0)
      → ((n i child : ℕ) → ¬ (P n i child)) → AddsSlots slots slots P
  adds_none slots P none n i child = grind arith

  -- each logical child that is added hangs in one slot still
  pub once_on : (old new : BTreeMap ℕ Slot) (P : ℕ → ℕ → ℕ → Type 0) → HangsOnce old t
      → AddsSlots old new P
      → ((n i child : ℕ) → P n i child → IsChild t n i child) → HangsOnce new t
  once_on old new P once adds is = record {
    anchor_free = once.anchor_free;
    rows = once.rows;
    above = once.above;
    one = once.one;
    told = λ n i child slot c e. ⊎_elim (λ h. once.told n i child slot c h)
        (λ p. let same = once.one slot.node slot.index n i child
        (is slot.node slot.index child p) c in at n i slot same.0 same.1)
        ((adds slot.node slot.index child).0 e);
  }
    where
      at : (n i : ℕ) (slot : Slot) → slot.node ≡ n → slot.index ≡ i
          → slot ≡ record { node = n; index = i }
      at n i slot a b = grind arith

  -- ---- a row in its slot

  module _ (old mid : BTreeMap ℕ Slot) (node i child : ℕ) (once : HangsOnce old t)
      (c : IsChild t node i child)
      (u : tree.Updates nat_cmp old mid child (Some record { node = node; index = i })) where
    -- it is the one entry that is added
    abbrev pub IsIt : ℕ → ℕ → ℕ → Type 0
    IsIt n j x = (n ≡ node) × (j ≡ i) × (x ≡ child)

    -- the new entry is the only slot that is added
    pub one_entry : AddsSlots old mid IsIt
    one_entry n j x = at (eqb_tells x child)
      where
        here : HasSlot mid node i child
        here = updated_here old mid child (record { node = node; index = i }) u

        at : ◌⊎◌ ((eqb x child ≡ true) × (x ≡ child)) ((eqb x child ≡ false) × (x ≢ child))
            → HasSlot mid n j x ↔ (HasSlot old n j x ⊎ IsIt n j x)
        at (inl k) = (
          (λ e. let same = some_slot n j node i (sym e ∙ ap (tree.get nat_cmp mid) k.1 ∙ here) in
              inr (same.0, same.1, k.1)),
          (λ h. ap (tree.get nat_cmp mid) k.1 ∙ here ∙ ⊎_elim (λ o. is_told o)
              (λ p. to_slot n j node i p.0 p.1) h),
        )
          where
            some_slot : (a b x y : ℕ)
                → ◌≡◌ {A = Option Slot} (Some record { node = a; index = b })
                (Some record { node = x; index = y }) → (a ≡ x) × (b ≡ y)
            some_slot a b x y e =
                let same = same_Some record { node = a; index = b } record { node = x; index = y } e
                in (ap (λ s. s.node) same, ap (λ s. s.index) same)

            to_slot : (a b x y : ℕ) → a ≡ x → b ≡ y
                → ◌≡◌ {A = Option Slot} (Some record { node = x; index = y })
                (Some record { node = a; index = b })
            to_slot a b x y e f = cc

            is_told : HasSlot old n j x
                → ◌≡◌ {A = Option Slot} (Some record { node = node; index = i })
                (Some record { node = n; index = j })
            is_told o =
                ap (λ s. Some s) (sym (once.told node i child (record { node = n; index = j }) c
                (ap (tree.get nat_cmp old) (sym k.1) ∙ o)))
        at (inr k) = grind (arith, updated_other)

    is_child : (n j x : ℕ) → IsIt n j x → IsChild t n j x
    is_child n j x p = grind arith

    -- each logical child hangs in one slot still
    pub once_more : HangsOnce mid t
    once_more = once_on old mid IsIt once one_entry is_child
