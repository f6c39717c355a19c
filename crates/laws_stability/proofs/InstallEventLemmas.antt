-- An Install stays enabled under events of others. Serves its clause.
use Rattle.std.proofs.Common.{List, Some, ap, length, slice_get, subst, sym, ℕ, ◌∙◌, ◌≡◌, ◌≢◌, ◌≤◌, arith}
use Rattle.ist_core.specs.declared.events.Event.TheVariants.{Install}
use Rattle.ist_core.specs.declared.events.Who.TheVariants.{Caller}
use Rattle.ist_core.specs.declared.lists.Row.{Row}
use Rattle.ist_core.specs.declared.pairs.Pair.{Pair}
use Rattle.ist_core.specs.declared.states.ChangeRow.{ChangeRow}
use Rattle.ist_core.specs.declared.states.RebuildRow.{RebuildRow}
use Rattle.ist_core.specs.TreeTerms.{AllGrow, CanInstall, ComesByKey, Finishes, FitsKind, Starts, a_finish, a_pair, a_put, a_remove, a_start, Leads, Linked, IsBuilt, first_change, touch_of}
use Rattle.ist_core.specs.LogTerms.{CanOpen, EachEnabled, state_of, GoesOn, Log, Snapshot, Later}
use Rattle.ist_core.specs.WordTerms.{Rebuild, InnerAt, ref_of, unset_word, SlotHolds, in_row, start}
use Rattle.ist_core.proofs.AllLogLemmas.{enabled_before, grow_between, inner_there, rebuild_there, get_alike, due_later, child_remains, ever_later, goes_on_by}
use Rattle.ist_core.proofs.AllPlaceLemmas.{InnerHere, RootNames, names, anchor_free, slot_once}
use Rattle.laws_links.proofs.FormLemmas.{leaf_of_grows, room_grows, started_grows}
use Rattle.laws_stability.specs.Meanwhile.{NoneRefused}
use Rattle.laws_stability.specs.Words.{FindsItsWord}
use Rattle.laws_stability.proofs.HoldingLemmas.{rows_later, finds, slot_later, slot_of_row}
use Rattle.laws_stability.proofs.LaterLemmas.{known_later}
use Rattle.laws_stability.proofs.OwnLemmas.{unrefused_later}
use Rattle.laws_stability.proofs.SetLemmas.{set_later}

-- a list of the same length had an element at each index at which the other has one
get_back : (xs ys : List ℕ) (i x : ℕ) → length ys ≡ length xs → slice_get ys i ≡ Some x
    → (y : ℕ) × (slice_get xs i ≡ Some y)
get_back xs ys i x e at = get_alike ys xs i x (sym e) at

-- the row that the word of a root names
root_here : (t : Snapshot) (target word base : ℕ) → RootNames t.pieces target (ref_of word)
    → ref_of word ≡ Some (InnerAt base) → InnerHere t.pieces base
root_here t target word base named is = (subst (λ o. RootNames t.pieces target o) is named).1

module _ (pairs : List Pair) (words : ℕ) (opens : CanOpen pairs words) {earlier log : Log}
    (on : GoesOn earlier log) (h : EachEnabled (start pairs words) log) where
  grows : AllGrow (state_of pairs words earlier).pieces (state_of pairs words log).pieces
  grows = grow_between pairs words earlier log h on

  before : EachEnabled (start pairs words) earlier
  before = enabled_before (start pairs words) earlier log on h

  -- the way to the slot stays
  by_key_later : (change : ChangeRow) → ComesByKey (start pairs words) earlier change
      → ComesByKey (start pairs words) log change
  by_key_later change c = record {
    led = ever_later (start pairs words) (λ t. Leads t change.key change.node) on c.led;
    index = child_remains (state_of pairs words earlier)
        (state_of pairs words log) grows change.node change.key change.index c.index;
  }

  clash : (w v : ℕ) → w ≢ unset_word → w ≡ v → v ≡ unset_word → ⊥
  clash w v set same none = set (same ∙ none)

  -- a built root stays built
  built_later : (rebuild : ℕ) (r : RebuildRow)
      → (state_of pairs words earlier).pieces rebuild ≡ Some (Rebuild r)
      → IsBuilt (state_of pairs words earlier) r.root → IsBuilt (state_of pairs words log) r.root
  built_later rebuild r e built = record {
    set = built.set;
    whole = λ base i word is holds none.
        let named = (names pairs words opens earlier before).rows rebuild (Rebuild r) e in
        let here = root_here (state_of pairs words earlier) r.target r.root base named.2 is in
        let row = inner_there (state_of pairs words earlier).pieces
        (state_of pairs words log).pieces grows base here.0 here.1 in
        let at = slot_of_row (state_of pairs words log) base i word row.0
        (anchor_free pairs words log h) row.1 holds in
        let old = get_back here.0.slots row.0.slots i word row.2.slots at in
        let holds_old : SlotHolds (state_of pairs words earlier) base i old.0 =
        in_row here.0 here.1 old.1 in
        let s = set_later pairs words opens on h base i
        record {
          word = old.0;
          holds = holds_old;
          set = built.whole base i old.0 is holds_old;
        } in
        let same : s.word ≡ word = slot_once (state_of pairs words log) base i s.word word
        (anchor_free pairs words log h) s.holds holds in
        clash s.word word s.set same none;
  }

  -- what a start needs stays
  starts_later : (change : ChangeRow) (fresh : List Row)
      → Starts (state_of pairs words earlier) change fresh
      → Starts (state_of pairs words log) change fresh
  starts_later change fresh s = grind (arith, inner_there, grows, due_later)

  -- what a finish needs stays true
  finishes_later : (change : ChangeRow) (fresh : List Row)
      → Finishes (state_of pairs words earlier) change fresh
      → Finishes (state_of pairs words log) change fresh
  finishes_later change fresh f =
      let it = rebuild_there (state_of pairs words earlier).pieces
      (state_of pairs words log).pieces grows f.rebuild f.row f.published in
      let root = it.2.rooted f.built.set in record {
        kind = f.kind;
        key = f.key;
        value = f.value;
        rebuild = f.rebuild;
        row = it.0;
        from = f.from;
        published = it.1;
        started = started_grows (state_of pairs words earlier)
            (state_of pairs words log) grows f.rebuild f.started;
        parent = it.2.parent ∙ f.parent;
        index = it.2.index ∙ f.index;
        to = f.to ∙ sym root;
        built = subst (λ w. IsBuilt (state_of pairs words log) w) (sym root)
            (built_later f.rebuild f.row f.published f.built);
        fresh_are = f.fresh_are;
      }

  -- the condition of each kind stays
  fits_later : (change : ChangeRow) (fresh : List Row)
      → FitsKind (start pairs words) earlier change fresh
      → FitsKind (start pairs words) log change fresh
  fits_later change fresh (a_put p) = a_put record {
    kind = p.kind;
    by_key = by_key_later change p.by_key;
    from = room_grows (state_of pairs words earlier)
        (state_of pairs words log) grows change.key change.from p.from;
    leaf = p.leaf;
    to = p.to;
    fresh_are = p.fresh_are;
  }
  fits_later change fresh (a_pair p) = a_pair record {
    kind = p.kind;
    by_key = by_key_later change p.by_key;
    other = p.other;
    other_key = p.other_key;
    from = p.from;
    stands = leaf_of_grows (state_of pairs words earlier)
        (state_of pairs words log) grows p.other p.other_key p.stands;
    differs = p.differs;
    pair = p.pair;
    leaf = p.leaf;
    to = p.to;
    above = p.above;
    fresh_are = p.fresh_are;
  }
  fits_later change fresh (a_remove p) = a_remove record {
    kind = p.kind;
    by_key = by_key_later change p.by_key;
    leaf = p.leaf;
    from = p.from;
    stands = leaf_of_grows (state_of pairs words earlier)
        (state_of pairs words log) grows p.leaf change.key p.stands;
    to = p.to;
    value = p.value;
    fresh_are = p.fresh_are;
  }
  fits_later change fresh (a_start p) = a_start (starts_later change fresh p)
  fits_later change fresh (a_finish p) = a_finish (finishes_later change fresh p)

module _ (pairs : List Pair) (words : ℕ) (opens : CanOpen pairs words) {earlier log : Log}
    (caller : ℕ) (later : Later (Caller caller) earlier log)
    (h : EachEnabled (start pairs words) log) where
  -- an Install stays enabled if `from` is in its slot and no change of the caller on the node is
  -- decided no
  pub install_stays : (base : ℕ) (rows : List Row)
      → CanInstall (start pairs words) earlier caller base rows
      → FindsItsWord (state_of pairs words earlier) (state_of pairs words log)
      (Install caller base rows)
      → ((change : ChangeRow) → first_change rows ≡ Some change
      → NoneRefused (state_of pairs words earlier) (state_of pairs words log) caller change.node)
      → CanInstall (start pairs words) log caller base rows
  install_stays base rows can f none = let change = can.change in let on = goes_on_by later in
      let has = finds (state_of pairs words earlier) (state_of pairs words log)
      (Install caller base rows) _
      (ap (λ xs. touch_of (state_of pairs words earlier) (Install caller base xs)) can.rows_are)
      f in
      record {
        known = known_later (start pairs words) on caller can.known;
        change = can.change;
        fresh = can.fresh;
        rows_are = can.rows_are;
        held = rows_later pairs words caller later h rows can.held;
        owned = can.owned;
        unset = can.unset;
        in_slot =
            slot_later pairs words earlier log on h change.node change.index change.from can.in_slot
            change.from has;
        linked = ever_later (start pairs words) (λ t. Linked t change.node) on can.linked;
        unrefused = unrefused_later pairs words caller later h change.node can.unrefused
            (none can.change (ap first_change can.rows_are));
        fits = fits_later pairs words opens on h can.change can.fresh can.fits;
      }
