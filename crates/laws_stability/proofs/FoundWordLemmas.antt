-- An enabled event finds its own word at its place. Serves `laws.events_find_their_words`.
use Rattle.std.proofs.Common.{List, Option, Some, ap, if◌then◌else◌, refl, sym, ℕ, ◌==◌, ◌∙◌, ◌≡◌, ◌≢◌, arith, length, subst, ⊎_elim, ◌+◌}
use Rattle.ist_core.specs.declared.events.Event.{Event}
use Rattle.ist_core.specs.declared.events.Event.TheVariants.{Count, Draw, Enter, Install, Okay, Pass, Place, Resolve, Decide, Finish, Lose, Mark, Reserve, Root}
use Rattle.ist_core.specs.declared.pairs.Pair.{Pair}
use Rattle.ist_core.specs.declared.states.ChangeRow.{ChangeRow}
use Rattle.ist_core.specs.declared.lists.Row.{Row}
use Rattle.ist_core.specs.LogTerms.{side_of, Enabled, EachEnabled, state_of, GoesOn, Log, CanOpen, IsShown, shown_slot, shown_callers, shown_next, shown_row, shown_status, state, Snapshot}
use Rattle.ist_core.specs.WordTerms.{as_change, as_rebuild, ChangeAt, InnerAt, ref_of, unset_word, word_of, SlotHolds, in_row, start, decided_yes, open_word, Change, Inner, Rebuild, as_inner, anchor, anchor_status_place, inner_status_offset, slot_place, IsOpen, anchor_is, in_anchor, row_is}
use Rattle.ist_core.specs.TreeTerms.{Touch, place_of_slot, place_of_status, touch_in_root, touch_of, touch_of_okay, touch_of_place, touch_of_resolve, touch_of_count, touch_of_draw, CanOkay, AllGrow, CanInstall, CanPass, first_change}
use Rattle.ist_core.proofs.AllLogLemmas.{grow_between, change_there, rebuild_there, set_by, on_chain_inner}
use Rattle.laws_stability.specs.Stability.{AddsNothing}
use Rattle.laws_stability.proofs.HoldingLemmas.{place_later, place_of_row}
use Rattle.std.proofs.lemmas.Bool.Decides.{eqb_tells}
use Rattle.ist_core.specs.ImageLaws.{IsNoLose}
use Rattle.ist_core.specs.Naming.{HasDegree}
use Rattle.ist_core.proofs.AllPlaceLemmas.{get-words_of_slot, anchor_free, shaped, no_row}
use Rattle.laws_stability.specs.Words.{FindsItsWord}
use Rattle.std.proofs.lemmas.Option.{same_Some}
use Rattle.ist_core.proofs.AllWordLemmas.{same_change, same_inner}
use Rattle.laws_stability.specs.Meanwhile.{IsMarked, IsStillUndecided, NoneRefused}

-- ---- an event touches after a longer log what it touched after a shorter one. Serves
-- `laws.touches_stay`.

-- a touch of a slot, by its place
abbrev touch_at : ℕ → ℕ → ℕ → Option Touch
touch_at place found left = Some record { place = place; found = found; left = left }

-- the side of a change, by its fields
abbrev side : ℕ → ℕ → ℕ → ℕ
side decision from to = if decision == decided_yes then to else from

module _ (pairs : List Pair) (words : ℕ) (earlier log : Log) (on : GoesOn earlier log)
    (h : EachEnabled (start pairs words) log) where
  -- a touch of a slot stays
  slot_touch : (node i word found left : ℕ) → SlotHolds (state_of pairs words earlier) node i word
      → touch_at (place_of_slot (state_of pairs words log) node i) found left
      ≡ touch_at (place_of_slot (state_of pairs words earlier) node i) found left
  slot_touch node i word found left holds =
      ap (λ p. touch_at p found left) (place_later pairs words earlier log on h node i word holds)

  -- a touch in the slot of a change
  change_touch : (x y : ChangeRow) (word found left now : ℕ) → y.node ≡ x.node → y.index ≡ x.index
      → now ≡ left → SlotHolds (state_of pairs words earlier) x.node x.index word
      → touch_at (place_of_slot (state_of pairs words log) y.node y.index) found now
      ≡ touch_at (place_of_slot (state_of pairs words earlier) x.node x.index) found left
  change_touch x y word found left now node index same holds =
      ap (λ n. touch_at (place_of_slot (state_of pairs words log) n y.index) found now) node
      ∙ ap (λ i. touch_at (place_of_slot (state_of pairs words log) x.node i) found now) index
      ∙ ap (λ w. touch_at (place_of_slot (state_of pairs words log) x.node x.index) found w) same
      ∙ slot_touch x.node x.index word found left holds

  -- each event but an Enter, a Count and a Draw has the same touch after the longer log
  pub touch_stays : (event : Event) → Enabled (start pairs words) earlier event → AddsNothing event
      → touch_of (state_of pairs words log) event ≡ touch_of (state_of pairs words earlier) event
  touch_stays (Install caller base rows) can adds =
      ap (λ xs. touch_of (state_of pairs words log) (Install caller base xs)) can.rows_are
      ∙ slot_touch can.change.node can.change.index can.change.from can.change.from
      (word_of (ChangeAt base)) can.in_slot
      ∙ sym (ap (λ xs. touch_of (state_of pairs words earlier) (Install caller base xs))
      can.rows_are)
  touch_stays (Okay caller base) can adds =
      let it = change_there (state_of pairs words earlier).pieces
      (state_of pairs words log).pieces (grow_between pairs words earlier log h on) base can.change can.pending.published in
      ap (λ o. touch_of_okay (as_change o)) it.1
      ∙ ap (λ n. touch_at (place_of_status n) open_word open_word) (ap (λ x. x.node) it.2.others)
      ∙ sym (ap (λ o. touch_of_okay (as_change o)) can.pending.published)
  touch_stays (Resolve caller base) can adds = let t = state_of pairs words earlier in
      let u = state_of pairs words log in
      let it = change_there t.pieces u.pieces (grow_between pairs words earlier log h on) base can.change can.published in
      let node : it.0.node ≡ can.change.node = ap (λ x. x.node) it.2.others in
      let index : it.0.index ≡ can.change.index = ap (λ x. x.index) it.2.others in
      let left : side_of it.0 ≡ side_of can.change =
      ap (λ d. side d it.0.from it.0.to) (it.2.decided can.decided)
      ∙ ap (λ w. side can.change.decision w it.0.to) (ap (λ x. x.from) it.2.others)
      ∙ ap (λ w. side can.change.decision can.change.from w) (ap (λ x. x.to) it.2.others) in
      ap (λ o. touch_of_resolve u base (as_change o)) it.1
      ∙ change_touch can.change it.0 (word_of (ChangeAt base)) (word_of (ChangeAt base))
      (side_of can.change) (side_of it.0) node index left can.in_slot
      ∙ sym (ap (λ o. touch_of_resolve t base (as_change o)) can.published)
  touch_stays (Pass caller node i word) can adds =
      slot_touch node i word word word (in_row can.row can.published can.in_slot)
  touch_stays (Place caller rebuild i word rows) can adds = let t = state_of pairs words earlier in
      let u = state_of pairs words log in
      let it = rebuild_there t.pieces u.pieces (grow_between pairs words earlier log h on) rebuild can.row can.published in
      let set : can.row.root ≢ unset_word = set_by can.row.root (InnerAt can.root) can.root_is
      (λ q. cc) in
      ap (λ o. touch_of_place u (as_rebuild o) i word) it.1
      ∙ ap (λ o. touch_in_root u o i word) (ap ref_of (it.2.rooted set) ∙ can.root_is)
      ∙ slot_touch can.root i unset_word unset_word word
      (in_row can.root_row can.root_published can.free)
      ∙ sym (ap (λ o. touch_of_place t (as_rebuild o) i word) can.published
      ∙ ap (λ o. touch_in_root t o i word) can.root_is)
  touch_stays (Enter caller) can adds = absurd adds
  touch_stays (Count caller node) can adds = absurd adds
  touch_stays (Draw caller rebuild part) can adds = absurd adds
  touch_stays _ can adds = refl

module _ (pairs : List Pair) (words : ℕ) (opens : CanOpen pairs words) (log : Log)
    (enabled : EachEnabled (start pairs words) log) where
  -- the state has the word of a slot at its place
  slot_has : (node i w : ℕ) → SlotHolds (state_of pairs words log) node i w
      → IsShown (state_of pairs words log) (place_of_slot (state_of pairs words log) node i) w
  slot_has node i w (in_anchor a b e) =
      subst (λ n. IsShown (state_of pairs words log)
      (place_of_slot (state_of pairs words log) n i) w) (sym a)
      (subst (λ x. IsShown (state_of pairs words log) 3 x) e shown_slot)
  slot_has node i w (in_row r e at) =
      let degree : HasDegree r = shaped pairs words log enabled node (Inner r) e in
      let keys = degree.keys in
      let same : node + (4 + length r.keys + i) ≡ slot_place node r.degree i = omega arith in
      subst (λ p. IsShown (state_of pairs words log) p w)
      (same ∙ sym
      (place_of_row (state_of pairs words log) node i r (anchor_free pairs words log enabled) e))
      (shown_row node (Inner r) (4 + length r.keys + i) e (get-words_of_slot r i ∙ at))

  -- the place of an open node's status shows the open word
  status_has : (node : ℕ) → IsOpen (state_of pairs words log) node
      → IsShown (state_of pairs words log) (place_of_status node) open_word
  status_has node (anchor_is a) =
      subst (λ n. IsShown (state_of pairs words log) (place_of_status n) open_word)
      (sym a) shown_status
  status_has node (row_is r e is) =
      ⊎_elim (λ same.
      absurd (no_row (state_of pairs words log).pieces node r
      (anchor_free pairs words log enabled) same.1 e))
      (λ other. subst (λ p. IsShown (state_of pairs words log) p open_word)
      (sym (ap (λ b. if b then anchor_status_place else node + inner_status_offset) other.0))
      (shown_row node (Inner r) 0 e (ap (λ x. Some x) is)))
      (eqb_tells node anchor)

  -- an enabled event finds its word
  pub finds_own : (event : Event) → Enabled (start pairs words) log event → IsNoLose event
      → FindsItsWord (state_of pairs words log) (state_of pairs words log) event
  finds_own (Enter caller) can k = record { touch = _; is = refl; found = shown_callers }
  finds_own (Reserve caller base size) can k = record {
    touch = _;
    is = refl;
    found = subst (λ w. IsShown (state_of pairs words log) 0 w) (sym can.base_is) shown_next;
  }
  finds_own (Install caller base rows) can k = record {
    touch = _;
    is = ap (λ xs. touch_of (state_of pairs words log) (Install caller base xs)) can.rows_are;
    found = slot_has can.change.node can.change.index can.change.from can.in_slot;
  }
  finds_own (Okay caller base) can k = record {
    touch = _;
    is = ap (λ o. touch_of_okay (as_change o)) can.pending.published;
    found = status_has can.change.node can.node_open;
  }
  finds_own (Decide caller base said) can k = record {
    touch = _;
    is = refl;
    found = shown_row base (Change can.change) 0 can.pending.published
        (ap (λ x. Some x) can.pending.unset);
  }
  finds_own (Resolve caller base) can k = record {
    touch = _;
    is = ap (λ o. touch_of_resolve (state_of pairs words log) base (as_change o)) can.published;
    found = slot_has can.change.node can.change.index _ can.in_slot;
  }
  finds_own (Count caller node) can k =
      let it = on_chain_inner pairs words opens log enabled can.update.change.node node
      can.on_chain in
      record {
        touch = _;
        is = ap (λ o. touch_of_count node (as_inner o)) it.1;
        found = shown_row node (Inner it.0) 1 it.1 refl;
      }
  finds_own (Mark caller node) can k = record {
    touch = _;
    is = refl;
    found = shown_row node (Inner can.row) 0 can.published (ap (λ x. Some x) can.row_open);
  }
  finds_own (Pass caller node i word) can k = record {
    touch = _;
    is = refl;
    found = slot_has node i word (in_row can.row can.published can.in_slot);
  }
  finds_own (Finish caller node keys) can k = record {
    touch = _;
    is = refl;
    found = shown_row node (Inner can.row) 0 can.published (ap (λ x. Some x) can.marked);
  }
  finds_own (Root caller rebuild word rows) can k = record {
    touch = _;
    is = refl;
    found = shown_row rebuild (Rebuild can.row) 3 can.published (ap (λ x. Some x) can.rootless);
  }
  finds_own (Draw caller rebuild part) can k = record {
    touch = _;
    is = ap (λ o. touch_of_draw rebuild (as_rebuild o)) can.published;
    found = shown_row rebuild (Rebuild can.row) 4 can.published refl;
  }
  finds_own (Place caller rebuild i word rows) can k = record {
    touch = _;
    is = ap (λ o. touch_of_place (state_of pairs words log) o i word) (ap as_rebuild can.published)
        ∙ ap (λ o. touch_in_root (state_of pairs words log) o i word) can.root_is;
    found = slot_has can.root i unset_word (in_row can.root_row can.root_published can.free);
  }
  finds_own (Lose caller bases) can k = absurd k

-- ---- what the stability law asks for is needed. Serves `laws.premises_are_needed`.

-- an event that is enabled after both logs finds its word
pub word_needed : (pairs : List Pair) (words : ℕ) → CanOpen pairs words → (earlier log : Log)
    → GoesOn earlier log → EachEnabled (start pairs words) log → (event : Event)
    → Enabled (start pairs words) earlier event
    → Enabled (start pairs words) log event → AddsNothing event → IsNoLose event
    → FindsItsWord (state_of pairs words earlier) (state_of pairs words log) event
word_needed pairs words opens earlier log on h event old now adds touches =
    let f = finds_own pairs words opens log h event now touches in record {
      touch = f.touch;
      is = sym (touch_stays pairs words earlier log on h event old adds) ∙ f.is;
      found = f.found;
    }

-- if an Install is enabled, no change of the caller on its node was decided no
pub none_refused : (first : Snapshot) (t : Snapshot) (log : Log) (caller base : ℕ) (rows : List Row)
    → AllGrow t.pieces (state first log).pieces → CanInstall first log caller base rows
    → (change : ChangeRow) → first_change rows ≡ Some change
    → NoneRefused t (state first log) caller change.node
none_refused first t log caller base rows g can change is at old new p own on e refused =
    grind (arith, change_there, same_change, same_Some)

-- if an Okay is enabled, its change is undecided
pub undecided_needed : (t : Snapshot) (caller base : ℕ) → CanOkay t caller base → IsStillUndecided t base
undecided_needed t caller base can change e = grind (arith, same_change)

-- if a Pass is enabled, its node is marked
pub mark_needed : (t : Snapshot) (caller node i word : ℕ) → CanPass t caller node i word
    → IsMarked t node
mark_needed t caller node i word can row e = grind (arith, same_inner)
