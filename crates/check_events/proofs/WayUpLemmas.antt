-- The way up by the slots in which nodes hung is the way down that was at some moment. Serves
-- `climbing.rt`.
use Rattle.std.proofs.Common.{◌≡◌, ◌↔◌, ◌∙◌, ◌≢◌, ◌⊎◌, ℕ, List, [], ◌∷◌, ◌++◌, Some, IsTrue, is_some, refl, sym, ap, subst, arith, inl, inr, ⊎_elim}
use Rattle.std.specs.Ordering.{nat_cmp}
use Rattle.std.specs.BTreeMap as tree
use Rattle.std.specs.BTreeMap.{BTreeMap}
use Rattle.ist_core.specs.WordTerms.{anchor, child_count, Inner, SlotHolds, in_anchor, in_row, IsChildFor, of_anchor, of_row}
use Rattle.ist_core.specs.LogTerms.{Among, Snapshot, Log, Ever, state}
use Rattle.ist_core.specs.TreeTerms.{IsChild, Linked, at_anchor, below, Chain, no_row, one_row, Leads, from_anchor, down, WasLinked, WasOnChain, WasLedTo}
use Rattle.ist_core.proofs.AllWordLemmas.{among-append, among_left, among_right, same_inner}
use Rattle.ist_core.proofs.AllLogLemmas.{leads_linked, chain_linked}
use Rattle.check_events.specs.declared.pasts.Slot.{Slot}
use Rattle.check_events.specs.Mirroring.{HasChildFor}
use Rattle.check_events.specs.Remembering.{KnowsSlots}
use Rattle.check_events.specs.Ways.{Climbs, at_top, up, ClimbsBy, here, higher, KeysStay}

-- ---- moments

-- u is the state at some moment of the log
abbrev pub IsMoment : Snapshot → Log → Snapshot → Type 0
IsMoment first log u = Ever first (λ t. t ≡ u) log

-- what held at some time held at a moment
pub ever_at : (first : Snapshot) (P : Snapshot → Type 0) (log : Log) → Ever first P log
    → (u : Snapshot) × IsMoment first log u × P u
ever_at first P [] h = (first, refl, h)
ever_at first P (event ∷ log) (inl h) = (state first (event ∷ log), inl refl, h)
ever_at first P (event ∷ log) (inr h) = let m = ever_at first P log h in (m.0, inr m.1, m.2)

-- what holds at a moment held at some time
pub at_ever : (first : Snapshot) (P : Snapshot → Type 0) (log : Log) (u : Snapshot) → IsMoment first
    log u → P u → Ever first P log
at_ever first P [] u e p = subst P (sym e) p
at_ever first P (event ∷ log) u (inl e) p = inl (subst P (sym e) p)
at_ever first P (event ∷ log) u (inr m) p = inr (at_ever first P log u m p)

-- the state after the log is a moment of it
pub is_moment : (first : Snapshot) (log : Log) → IsMoment first log (state first log)
is_moment first [] = refl
is_moment first (event ∷ log) = inl refl

-- ---- ways at one moment

-- an anchor's child is child 0, and a row's child is by its keys
pub child_of_row : (t : Snapshot) (node key i : ℕ) → ¬ ((node ≡ anchor) × (i ≡ 0))
    → HasChildFor t node key i ↔ IsChildFor t node key i
child_of_row t node key i far = ((λ h. of_row h.row h.published h.index), back)
  where
    back : IsChildFor t node key i → HasChildFor t node key i
    back (of_anchor a b) = absurd (far (a, b))
    back (of_row r e j) = record { row = r; published = e; index = j }

module _ (first : Snapshot) (log : Log) (slots : BTreeMap ℕ Slot) (k : KnowsSlots slots first log)
  where
    -- what was a child has its slot in the map
    entry : (u : Snapshot) → IsMoment first log u → (node i child : ℕ) → Linked u node
        → IsChild u node i child
        → tree.get nat_cmp slots child ≡ Some record { node = node; index = i }
    entry u m node i child l c = (k.entries node i child).1
        (at_ever first (λ t. Linked t node × IsChild t node i child) log u m (l, c))

    same_slot : (u : Snapshot) → IsMoment first log u → (node i child : ℕ) → Linked u node
        → IsChild u node i child → (slot : Slot)
        → tree.get nat_cmp slots child ≡ Some slot → record { node = node; index = i } ≡ slot
    same_slot u m node i child l c slot e = let there = entry u m node i child l c in cc

    no_slot_of_anchor : (slot : Slot) → ¬ (tree.get nat_cmp slots anchor ≡ Some slot)
    no_slot_of_anchor slot e = let r = k.rises anchor slot e in absurd (omega arith)

    -- ---- linked nodes

    linked_entry : (u : Snapshot) → IsMoment first log u → (n : ℕ) → Linked u n
        → (n ≡ anchor) ⊎ ((slot : Slot) × (tree.get nat_cmp slots n ≡ Some slot))
    linked_entry u m _ at_anchor = inl refl
    linked_entry u m _ (below {node = p} {child = n} i l c) = inr (
      record { node = p; index = i },
      entry u m p i n l c,
    )

    -- a node that was linked has a slot in the map, unless it is the anchor
    pub linked_in : (n : ℕ) → n ≢ anchor → WasLinked first log n
        → (slot : Slot) × (tree.get nat_cmp slots n ≡ Some slot)
    linked_in n far h = grind (arith, ever_at, linked_entry)

    -- a node with a slot in the map was linked
    pub linked_out : (n : ℕ) (slot : Slot) → tree.get nat_cmp slots n ≡ Some slot → WasLinked first
        log n
    linked_out n slot e =
        let w = ever_at first (λ t. Linked t slot.node × IsChild t slot.node slot.index n) log
        ((k.entries slot.node slot.index n).0 e) in
        at_ever first (λ t. Linked t n) log w.0 w.1 (below slot.index w.2.0 w.2.1)

    -- ---- the way of a key

    for_now : KeysStay first log → (u : Snapshot) → IsMoment first log u → (p key i : ℕ)
        → IsChildFor u p key i → IsChildFor (state first log) p key i
    for_now stay u m p key i (of_anchor a b) = of_anchor a b
    for_now stay u m p key i (of_row r e j) =
        let s = stay p r (at_ever first (λ t. t.pieces p ≡ Some (Inner r)) log u m e) in
        of_row s.0 s.1 (j ∙ ap (λ ks. child_count ks key) (sym s.2))

    for_then : KeysStay first log → (u : Snapshot) → IsMoment first log u → (p key i word : ℕ)
        → SlotHolds u p i word → IsChildFor (state first log) p key i → IsChildFor u p key i
    for_then stay u m p key i word (in_anchor a b c) f = of_anchor a b
    for_then stay u m p key i word (in_row r e s) (of_anchor a b) = of_anchor a b
    for_then stay u m p key i word (in_row r e s) (of_row q d j) =
        let now = stay p r (at_ever first (λ t. t.pieces p ≡ Some (Inner r)) log u m e) in
        let same : q ≡ now.0 = same_inner ((state first log).pieces p) q now.0 d now.1 in
        of_row r e (j ∙ ap (λ x. child_count x.keys key) same ∙ ap (λ ks. child_count ks key) now.2)

    led_climbs : KeysStay first log → (u : Snapshot) → IsMoment first log u → (key n : ℕ)
        → Leads u key n → Climbs slots (state first log) key n
    led_climbs stay u m key _ from_anchor = at_top
    led_climbs stay u m key _ (down {node = p} {child = n} i l f c) =
        up record { node = p; index = i } (entry u m p i n (leads_linked u key p l) c)
        (for_now stay u m p key i f) (led_climbs stay u m key p l)

    -- a linked node of whose way up each slot is for the key is led to by the key
    one_down : KeysStay first log → (u : Snapshot) → IsMoment first log u → (key p i n : ℕ)
        → Linked u p → IsChild u p i n → (Climbs slots (state first log) key p → Leads u key p)
        → Climbs slots (state first log) key n → Leads u key n
    one_down stay u m key p i _ l c again at_top = from_anchor
    one_down stay u m key p i n l c again (up slot e f rest) =
        let same = same_slot u m p i n l c slot e in
        let climbs = subst (λ s. Climbs slots (state first log) key s.node) (sym same) rest in
        let child = subst (λ s. IsChildFor (state first log) s.node key s.index) (sym same) f in
        down i (again climbs) (for_then stay u m p key i c.word c.holds child) c

    -- if the way up from a linked node is for a key, the key leads to the node
    pub linked_leads : KeysStay first log → (u : Snapshot) → IsMoment first log u → (key n : ℕ)
        → Linked u n → Climbs slots (state first log) key n → Leads u key n
    linked_leads stay u m key _ at_anchor h = from_anchor
    linked_leads stay u m key _ (below {node = p} {child = n} i l c) h = one_down stay u m key p i n l
        c (λ x. linked_leads stay u m key p l x) h

    climbs_led : KeysStay first log → (key n : ℕ) → Climbs slots (state first log) key n
        → WasLedTo first log key n
    climbs_led stay key _ at_top = at_ever first (λ t. Leads t key anchor) log (state first log)
        (is_moment first log) from_anchor
    climbs_led stay key n (up slot e f rest) =
        let w = ever_at first (λ t. Linked t slot.node × IsChild t slot.node slot.index n) log
        ((k.entries slot.node slot.index n).0 e) in
        at_ever first (λ t. Leads t key n) log w.0 w.1 (linked_leads stay w.0 w.1 key n
        (below slot.index w.2.0 w.2.1) (up slot e f rest))

    -- the way up from a node is for a key exactly if the key led to the node at some moment
    pub climbs_is : KeysStay first log → (key n : ℕ)
        → Climbs slots (state first log) key n ↔ WasLedTo first log key n
    climbs_is stay key n = grind (arith, climbs_led, ever_at, led_climbs)

    -- ---- chains

    chain_comes : (u : Snapshot) → IsMoment first log u → (n : ℕ) (rows : List ℕ) → Chain u n rows
        → (x : ℕ) → Among x rows → ClimbsBy slots x n
    chain_comes u m _ _ no_row x a = absurd a
    chain_comes u m _ _ (one_row {node = p} {child = n} {rows = rs} i ch c) x a =
        let there = entry u m p i n (chain_linked u p rs ch) c in ⊎_elim
        (λ (b : Among x rs). higher record { node = p; index = i } there
        (chain_comes u m p rs ch x b))
        (λ (b : Among x (n ∷ [])). ⊎_elim (λ e. subst (λ y. ClimbsBy slots y n) (sym e)
        (here record { node = p; index = i } there)) (λ z. absurd z) b)
        (among-append x rs (n ∷ []) a)

    -- a row that the way up passes is on the chain, if the chain of the parent has those higher up
    on_longer : (u : Snapshot) → IsMoment first log u → (p i n : ℕ) → Linked u p → IsChild u p i n
        → (rs : List ℕ) → ((x : ℕ) → ClimbsBy slots x p → Among x rs)
        → (x : ℕ) → ClimbsBy slots x n → Among x (rs ++ n ∷ [])
    on_longer u m p i n l c rs above _ (here slot e) = among_right n rs (n ∷ []) (inl refl)
    on_longer u m p i n l c rs above x (higher slot e rest) =
        let same = same_slot u m p i n l c slot e in
        among_left x rs (n ∷ []) (above x (subst (λ s. ClimbsBy slots x s.node) (sym same) rest))

    none_on_anchor : (x n : ℕ) → n ≡ anchor → ¬ (ClimbsBy slots x n)
    none_on_anchor _ n a (here slot e) = grind (arith, no_slot_of_anchor)
    none_on_anchor x n a (higher slot e rest) = grind (arith, no_slot_of_anchor)

    linked_chain : (u : Snapshot) → IsMoment first log u → (n : ℕ) → Linked u n
        → (rows : List ℕ) × Chain u n rows × ((x : ℕ) → ClimbsBy slots x n → Among x rows)
    linked_chain u m _ at_anchor = ([], no_row, λ x h. none_on_anchor x anchor refl h)
    linked_chain u m _ (below {node = p} {child = n} i l c) = let r = linked_chain u m p l in
        (r.0 ++ n ∷ [], one_row i r.1 c, on_longer u m p i n l c r.0 r.2)

    -- a node whose way up passes a row has a slot in the map
    pub comes_entry : (x n : ℕ) → ClimbsBy slots x n
        → (slot : Slot) × (tree.get nat_cmp slots n ≡ Some slot)
    comes_entry _ n (here slot e) = (slot, e)
    comes_entry x n (higher slot e rest) = (slot, e)

    -- the way up from a node passes a row exactly if the row was on the node's chain
    pub comes_is : (n x : ℕ) → ClimbsBy slots x n ↔ WasOnChain first log n x
    comes_is n x = (
      out,
      (λ h. grind (arith, ever_at, chain_comes)),
    )
      where
        out : ClimbsBy slots x n → WasOnChain first log n x
        out h = let s = comes_entry x n h in
            let w = ever_at first (λ t. Linked t s.0.node × IsChild t s.0.node s.0.index n) log
            ((k.entries s.0.node s.0.index n).0 s.1) in
            let r = linked_chain w.0 w.1 n (below s.0.index w.2.0 w.2.1) in
            at_ever first (λ t. (rows : List ℕ) × Chain t n rows × Among x rows) log w.0 w.1
            (r.0, r.1, r.2 x h)

    -- a node below the anchor was linked exactly if the map has a slot for it
    pub linked_is : (n : ℕ) → n ≢ anchor
        → IsTrue (is_some (tree.get nat_cmp slots n)) ↔ WasLinked first log n
    linked_is n far = grind (arith, linked_out, linked_in)

-- the anchor is linked always
pub anchor_linked : (first : Snapshot) (log : Log) → WasLinked first log anchor
anchor_linked first log = at_ever first (λ t. Linked t anchor) log (state first log)
    (is_moment first log) at_anchor
