-- Where the slot of a change lies, and what is shown there. Serves `slot_of` and `resolve`.
use Rattle.std.proofs.Common.{◌≡◌, ◌≢◌, ℕ, ◌+◌, ◌≤◌, List, ◌∷◌, length, Some, refl, sym, ap, ◌∙◌, subst, arith, inl, inr, ⊎_elim}
use Rattle.ist_core.specs.declared.pairs.Pair.{Pair}
use Rattle.ist_core.specs.declared.states.InnerRow.{InnerRow}
use Rattle.ist_core.specs.declared.states.ChangeRow.{ChangeRow}
use Rattle.ist_core.specs.declared.events.Event.{Event}
use Rattle.ist_core.specs.declared.events.Event.TheVariants.{Install, Decide}
use Rattle.ist_core.specs.declared.lists.Row.{Row}
use Rattle.ist_core.specs.declared.states.RebuildRow.{RebuildRow}
use Rattle.ist_core.specs.WordTerms.{first_row, anchor, anchor_slot_place, slot_place, Piece, Inner, Change, size_of, start, SlotHolds, in_anchor, in_row, ref_of, InnerAt, Rebuild}
use Rattle.ist_core.specs.LogTerms.{Snapshot, Log, EachEnabled, state_of, IsShown, shown_next, shown_callers, shown_status, shown_slot, shown_row, shown_free, GoesOn, CanOpen}
use Rattle.ist_core.specs.TreeTerms.{AllGrow, place_of_slot, Leads, IsBuilt, ComesByKey, FitsKind, a_put, a_pair, a_remove, a_start, a_finish}
use Rattle.ist_core.specs.Naming.{HasDegree}
use Rattle.ist_core.proofs.AllPlaceLemmas.{get-words_of_slot, placed, claimed_within, anchor_free, next_after_fixed, shaped, get_below, has_word, RootNames, names}
use Rattle.ist_core.proofs.AllLogLemmas.{inner_there, slot_remains, grow_after, rebuild_there, child_remains, due_later, grow_between, enabled_before, ever_later}
use Rattle.laws_links.proofs.InductionLemmas.{changes_by}
use Rattle.ist_rule.proofs.WatchLemmas.{shown_in_row, place_inner}
use Rattle.ist_core.proofs.AllWordLemmas.{same_inner}
use Rattle.laws_links.proofs.FormLemmas.{leaf_of_grows, room_grows, started_grows}
use Rattle.ist_dcss.proofs.SetSlotLemmas.{set_later}

-- each change has a slot
pub change_slot : (pairs : List Pair) (words : ℕ) (log : Log) → EachEnabled (start pairs words) log
    → (base : ℕ) (x : ChangeRow) → (state_of pairs words log).pieces base ≡ Some (Change x)
    → (word : ℕ) × SlotHolds (state_of pairs words log) x.node x.index word
change_slot pairs words = changes_by pairs words
    (λ log base x. (word : ℕ) × SlotHolds (state_of pairs words log) x.node x.index word)
    (λ log event h base x old there was. on log event h x.node x.index was)
    (λ log caller base rows h can.
    on log (Install caller base rows) h can.change.node can.change.index
    (can.change.from, can.in_slot))
    (λ log caller base said h can was.
    on log (Decide caller base said) h can.change.node can.change.index was)
  where
    on : (log : Log) (event : Event) (h : EachEnabled (start pairs words) (event ∷ log))
        (node i : ℕ) → (word : ℕ) × SlotHolds (state_of pairs words log) node i word
        → (word : ℕ) × SlotHolds (state_of pairs words (event ∷ log)) node i word
    on log event h node i was =
        slot_remains (state_of pairs words log) (state_of pairs words (event ∷ log))
        (grow_after pairs words log event h) node i was.0 was.1

module _ (pairs : List Pair) (words : ℕ) (log : Log) (enabled : EachEnabled (start pairs words) log)
  where
    abbrev t : Snapshot
    t = state_of pairs words log

    -- an inner row isn't the anchor
    pub no_anchor : (node : ℕ) (r : InnerRow) → t.pieces node ≡ Some (Inner r) → node ≢ anchor
    no_anchor node r e is = cc (sym (anchor_free pairs words log enabled) ∙ subst
        (λ n. t.pieces n ≡ Some (Inner r)) is e)

    -- an inner row has as many slots as its degree says
    pub has_degree : (node : ℕ) (r : InnerRow) → t.pieces node ≡ Some (Inner r) → HasDegree r
    has_degree node r e = shaped pairs words log enabled node (Inner r) e

    -- the place of slot i of an inner row, among its words
    slot_at : (node i word : ℕ) (r : InnerRow) → t.pieces node ≡ Some (Inner r)
        → place_of_slot t node i ≡ node + (4 + length r.keys + i)
    slot_at node i word r e = grind (arith, has_degree, place_inner, no_anchor)

    -- the anchor's slot lies at its place
    anchor_at : (node i : ℕ) → node ≡ anchor → place_of_slot t node i ≡ anchor_slot_place
    anchor_at node i e = ap (λ n. place_of_slot t n i) e

    row_above : (base : ℕ) (p : Piece) → t.pieces base ≡ Some p → first_row ≤ base
    row_above base p e = (claimed_within pairs words log base (size_of p) enabled
        ((placed pairs words log enabled).published base p e)).after_fixed

    -- the word shown at the place of the anchor's slot is the slot's
    shown_anchor : (place word : ℕ) → IsShown t place word → place ≡ anchor_slot_place
        → word ≡ t.anchor
    shown_anchor _ _ shown_next e = absurd (omega arith)
    shown_anchor _ _ shown_callers e = absurd (omega arith)
    shown_anchor _ _ shown_status e = absurd (omega arith)
    shown_anchor _ _ shown_slot e = refl
    shown_anchor _ _ (shown_row base p k there at) e = grind (arith, row_above)
    shown_anchor _ _ (shown_free far in_it) e = grind (arith, next_after_fixed)

    -- the word in a slot is shown at its place
    pub slot_shown : (node i word : ℕ) → SlotHolds t node i word
        → IsShown t (place_of_slot t node i) word
    slot_shown node i word (in_anchor e f is) =
        subst (λ p. IsShown t p word) (sym (anchor_at node i e))
        (subst (IsShown t anchor_slot_place) is shown_slot)
    slot_shown node i word (in_row r e at) =
        subst (λ p. IsShown t p word) (sym (slot_at node i word r e))
        (shown_row node (Inner r) (4 + length r.keys + i) e (get-words_of_slot r i ∙ at))

    -- only the slot's word is shown at its place
    pub shown_in_slot : (node i word shown : ℕ) → SlotHolds t node i word
        → IsShown t (place_of_slot t node i) shown → shown ≡ word
    shown_in_slot node i word shown (in_anchor e f is) s = grind (arith, shown_anchor, anchor_at)
    shown_in_slot node i word shown (in_row r e at) s =
        shown_in_row pairs words log enabled node (Inner r) (4 + length r.keys + i) word e
        (get-words_of_slot r i ∙ at) (place_of_slot t node i) shown s (slot_at node i word r e)

-- the place of a slot stays if rows grow
pub slot_place_later : (pairs : List Pair) (words : ℕ) (old log : Log)
    (before : EachEnabled (start pairs words) old) (enabled : EachEnabled (start pairs words) log)
    → AllGrow (state_of pairs words old).pieces (state_of pairs words log).pieces
    → (node i word : ℕ) → SlotHolds (state_of pairs words old) node i word
    → place_of_slot (state_of pairs words log) node i ≡ place_of_slot (state_of pairs words old)
    node i
slot_place_later pairs words old log before enabled g node i word (in_anchor e f is) = grind arith
slot_place_later pairs words old log before enabled g node i word (in_row r e at) =
    let t = state_of pairs words old in let u = state_of pairs words log in
    let on = inner_there t.pieces u.pieces g node r e in
    place_inner u node i on.0 on.1 (no_anchor pairs words log enabled node on.0 on.1)
    ∙ ap (λ d. slot_place node d i) on.2.degree
    ∙ sym (place_inner t node i r e (no_anchor pairs words old before node r e))

-- ---- what an Install asks of the log holds after each longer one. Serves `install`.

module _ (pairs : List Pair) (words : ℕ) (opens : CanOpen pairs words) (old log : Log)
    (enabled : EachEnabled (start pairs words) log) (on : GoesOn old log) where
  abbrev before : Snapshot
  before = state_of pairs words old

  abbrev u : Snapshot
  u = state_of pairs words log

  grow : AllGrow before.pieces u.pieces
  grow = grow_between pairs words old log enabled on

  comes_later : (change : ChangeRow) → ComesByKey (start pairs words) old change
      → ComesByKey (start pairs words) log change
  comes_later change c = record {
    led = ever_later (start pairs words) (λ before. Leads before change.key change.node) on c.led;
    index = child_remains before u grow change.node change.key change.index c.index;
  }

  -- a built root is built
  built_later : (root : ℕ) → ((base : ℕ) → ref_of root ≡ Some (InnerAt base)
      → (r : InnerRow) × (before.pieces base ≡ Some (Inner r))) → IsBuilt before root → IsBuilt u root
  built_later root stands b = record {
    set = b.set;
    whole = λ base i word is slot. set_later pairs words old log on enabled base i
        (λ w s. b.whole base i w is s) (slot_before base i word (stands base is) slot) word slot;
  }
    where
      slot_before : (base i word : ℕ) → (r : InnerRow) × (before.pieces base ≡ Some (Inner r))
          → SlotHolds u base i word → (w : ℕ) × SlotHolds before base i w
      slot_before base i word r (in_anchor e f is) = (before.anchor, in_anchor e f refl)
      slot_before base i word r (in_row s e at) =
          let it = inner_there before.pieces u.pieces grow base r.0 r.1 in
          let same : it.0 ≡ s = same_inner (u.pieces base) it.0 s it.1 e in
          let less = get_below s.slots i word at in
          let slots : length it.0.slots ≡ length r.0.slots = it.2.slots in
          let here : length it.0.slots ≡ length s.slots = ap (λ x. length x.slots) same in
          let got = has_word r.0.slots i (omega arith) in (got.0, in_row r.0 r.1 got.1)

  -- the root of a published rebuild is published
  root_stands : (rebuild : ℕ) (r : RebuildRow) → before.pieces rebuild ≡ Some (Rebuild r) → (base : ℕ)
      → ref_of r.root ≡ Some (InnerAt base) → (s : InnerRow) × (before.pieces base ≡ Some (Inner s))
  root_stands rebuild r e base is =
      let row = (names pairs words opens old (enabled_before (start pairs words) old log on
      enabled)).rows rebuild (Rebuild r) e in
      (subst (RootNames before.pieces r.target) is row.2).1

  -- a change that fits its kind fits it
  pub fits_later : (change : ChangeRow) (fresh : List Row)
      → FitsKind (start pairs words) old change fresh → FitsKind (start pairs words) log change
      fresh
  fits_later change fresh (a_put h) = a_put record {
    kind = h.kind;
    by_key = comes_later change h.by_key;
    from = room_grows before u grow change.key change.from h.from;
    leaf = h.leaf;
    to = h.to;
    fresh_are = h.fresh_are;
  }
  fits_later change fresh (a_pair h) = a_pair record {
    kind = h.kind;
    by_key = comes_later change h.by_key;
    other = h.other;
    other_key = h.other_key;
    from = h.from;
    stands = leaf_of_grows before u grow h.other h.other_key h.stands;
    differs = h.differs;
    pair = h.pair;
    leaf = h.leaf;
    to = h.to;
    above = h.above;
    fresh_are = h.fresh_are;
  }
  fits_later change fresh (a_remove h) = a_remove record {
    kind = h.kind;
    by_key = comes_later change h.by_key;
    leaf = h.leaf;
    from = h.from;
    stands = leaf_of_grows before u grow h.leaf change.key h.stands;
    to = h.to;
    value = h.value;
    fresh_are = h.fresh_are;
  }
  fits_later change fresh (a_start h) =
      let it = inner_there before.pieces u.pieces grow h.target h.row h.published in a_start record {
        kind = h.kind;
        key = h.key;
        value = h.value;
        target = h.target;
        row = it.0;
        from = h.from;
        published = it.1;
        due = ⊎_elim (λ due. inl (due_later h.row it.0 it.2 due)) (λ anchor. inr anchor) h.due;
        rebuild = h.rebuild;
        to = h.to;
        fresh_are = h.fresh_are;
      }
  fits_later change fresh (a_finish h) =
      let it = rebuild_there before.pieces u.pieces grow h.rebuild h.row h.published in
      let root : it.0.root ≡ h.row.root = it.2.rooted h.built.set in a_finish record {
        kind = h.kind;
        key = h.key;
        value = h.value;
        rebuild = h.rebuild;
        row = it.0;
        from = h.from;
        published = it.1;
        started = started_grows before u grow h.rebuild h.started;
        parent = it.2.parent ∙ h.parent;
        index = it.2.index ∙ h.index;
        to = h.to ∙ sym root;
        built = subst (IsBuilt u) (sym root) (built_later h.row.root
            (root_stands h.rebuild h.row h.published) h.built);
        fresh_are = h.fresh_are;
      }
