-- Each of the three loads that are events meets what such a load asks. Serves `watching`.
use Rattle.std.proofs.Common.{◌≡◌, ◌≢◌, ℕ, ◌+◌, ◌<◌, ◌&&◌, ◌==◌, not, [], ◌∷◌, length, slice_get, Some, refl, sym, ap, ap₂, ◌∙◌, subst, inl, inr, arith}
use Rattle.std.proofs.lemmas.Option.{slice_get-get_or}
use Rattle.std.proofs.lemmas.Bool.{eqb-true}
use Rattle.ist_core.specs.declared.states.InnerRow.{InnerRow}
use Rattle.ist_core.specs.declared.states.ChangeRow.{ChangeRow}
use Rattle.ist_core.specs.declared.events.Event.{Event}
use Rattle.ist_core.specs.declared.events.Event.TheVariants.{Okay, Pass, Lose}
use Rattle.ist_core.specs.declared.events.Who.TheVariants.{Caller}
use Rattle.ist_core.specs.WordTerms.{anchor, pair_words, inner_status_offset, slot_place, ref_of, unset_word, open_word, marked_word, undecided, Inner, Change, words_of, as_inner, as_change, start, IsOpen, anchor_is, row_is}
use Rattle.ist_core.specs.LogTerms.{Snapshot, HoldsRow, Log, Enabled, state_of, whose, Later, IsShown, shown_status, shown_row}
use Rattle.ist_core.specs.Naming.{HasDegree}
use Rattle.ist_core.specs.TreeTerms.{place_of_status, place_of_slot, touch_of, touch_of_okay}
use Rattle.ist_core.proofs.AllPlaceLemmas.{get-words_of_slot, anchor_free, shaped, both_true}
use Rattle.ist_core.proofs.AllLogLemmas.{inner_there, change_there, grow_between, goes_on_by}
use Rattle.ist_rule.specs.RuleTerms.{View, IsSound, now, MayCome, CanMake, LeavesAt, CanLoadAs, IsNode, is_anchor, is_inner, number_of, waits, okay_of, CanLoadOkay, is_marked, is_change_ref, pass_of, CanLoadPass, past_of, CanLoadPast}
use Rattle.ist_rule.proofs.EventLemmas.{callers_later}
use Rattle.ist_rule.proofs.WatchLemmas.{held_later, some_one, shown_in_row, change_node, if_some, not_true, no_change, status_place_inner, status_place_anchor, place_inner}

-- ---- the three loads

module _ (v : View) (s : IsSound v) (log : Log) (m : MayCome v log) where
  abbrev u : Snapshot
  u = state_of v.start v.words log

  low : (number : ℕ) → v.who ≡ Caller number → number < u.callers
  low number who = grind (arith, callers_later)

  -- an inner row is still there
  inner_later : (node : ℕ) (row : InnerRow) → (now v).pieces node ≡ Some (Inner row)
      → (r : InnerRow) × (u.pieces node ≡ Some (Inner r)) × (r.degree ≡ row.degree)
  inner_later node row e =
      let it = inner_there (now v).pieces u.pieces
      (grow_between v.start v.words v.log log m.lawful.enabled (goes_on_by m.later)) node
      row e in (it.0, it.1, it.2.degree)

  -- a change is still there
  change_later : (base : ℕ) (row : ChangeRow) → (now v).pieces base ≡ Some (Change row)
      → (r : ChangeRow) × (u.pieces base ≡ Some (Change r)) × (r.node ≡ row.node)
  change_later base row e =
      let it = change_there (now v).pieces u.pieces
      (grow_between v.start v.words v.log log m.lawful.enabled (goes_on_by m.later)) base
      row e in (it.0, it.1, ap (λ x. x.node) it.2.others)

  -- no row lies at the anchor
  not_anchor : (node : ℕ) (r : InnerRow) → u.pieces node ≡ Some (Inner r) → node ≢ anchor
  not_anchor node r e is = cc (sym (anchor_free v.start v.words log m.lawful.enabled) ∙ subst
      (λ n. u.pieces n ≡ Some (Inner r)) is e)

  -- the status of a node is shown at its place
  status_shown : (node : ℕ) → IsNode u node → (word : ℕ) × IsShown u (place_of_status node) word
      × (word ≡ open_word → IsOpen u node)
  status_shown node (is_anchor e) = (
    open_word,
    subst (λ p. IsShown u p open_word) (sym (status_place_anchor node e))
        shown_status,
    (λ _. anchor_is e),
  )
  status_shown node (is_inner r e) = (
    r.status,
    subst (λ p. IsShown u p r.status)
        (sym (status_place_inner node (not_anchor node r e))) (shown_row node (Inner r) 0 e refl),
    (λ is. row_is r e is),
  )

  -- a load of the status that gives an open one shows the node open
  open_seen : (node : ℕ) → IsNode u node → (word : ℕ) → IsShown u (place_of_status node) word
      → word ≡ open_word → IsOpen u node
  open_seen node (is_anchor e) word shown is = anchor_is e
  open_seen node (is_inner r e) word shown is =
      row_is r e (sym (shown_in_row v.start v.words log m.lawful.enabled node (Inner r) 0 r.status e
      refl (place_of_status node) word shown (status_place_inner node (not_anchor node r e))) ∙
      is)

-- a caller may load the status of a change's node, and so see the node open
pub can_load_okay : (v : View) (change place : ℕ) → IsSound v → CanLoadOkay v change place
    → CanLoadAs v place (okay_of v change)
can_load_okay v change place s can = record {
  known = λ log m. let r = change_later v s log m change can.row can.installed in
      let node = subst (λ n. IsNode (state_of v.start v.words log) n) r.2
      (change_node v.start v.words log m.lawful.enabled change r.0 r.1) in
      let it = status_shown v s log m can.row.node node in
      (it.0, subst (λ p. IsShown (state_of v.start v.words log) p it.0) (sym can.at) it.1);
  comes = λ log m word shown event named. okay_comes log m word shown event named;
}
  where
    okay_comes : (log : Log) (m : MayCome v log) (word : ℕ)
        → IsShown (state_of v.start v.words log) place word → (event : Event)
        → okay_of v change log word ≡ Some event → CanMake v event × LeavesAt v log event place word
    okay_comes log m word shown event named = let t = state_of v.start v.words log in
        let r = change_later v s log m change can.row can.installed in
        let node = subst (λ n. IsNode t n) r.2
        (change_node v.start v.words log m.lawful.enabled change r.0 r.1) in
        let it = if_some ((word == open_word) && waits (as_change (t.pieces change)))
        (Okay (number_of v.who) change) event named in
        let both = both_true (word == open_word) (waits (as_change (t.pieces change))) it.0 in
        let zero_is = eqb-true word open_word both.0 in
        let unset = eqb-true r.0.decision undecided
        (sym (ap (λ o. waits (as_change o)) r.1) ∙ both.1) in
        let number = ap number_of can.mine in
        let opened = open_seen v s log m can.row.node node word
        (subst (λ p. IsShown t p word) can.at shown) zero_is in
        let mine : whose (Okay (number_of v.who) change) ≡ v.who =
        ap Caller number ∙ sym can.mine in
        let enabled : Enabled (start v.start v.words) log (Okay (number_of v.who) change) =
        record {
          known = subst (λ n. n < t.callers) (sym number) (low v s log m can.number can.mine);
          change = r.0;
          pending = record { published = r.1; unset = unset };
          node_open = subst (IsOpen t) (sym r.2) opened;
        } in
        let touches : touch_of t (Okay (number_of v.who) change) ≡ Some record {
          place = place;
          found = word;
          left = word;
        } =
        ap (λ o. touch_of_okay (as_change o)) r.1
        ∙ ap₂ (λ p n. Some record { place = p; found = n; left = n })
        (ap place_of_status r.2 ∙ sym can.at) (sym zero_is) in (
          subst (CanMake v) it.1 record { mine = mine; stored = tt; allowed = tt },
          subst (λ e. LeavesAt v log e place word) it.1 record {
            enabled = enabled;
            leaves = inl touches;
          },
        )

-- a slot of an inner row is shown at its place
module _ (v : View) (s : IsSound v) (log : Log) (m : MayCome v log) (node i place : ℕ)
    (row : InnerRow) (there : (now v).pieces node ≡ Some (Inner row)) (within : i < row.degree)
    (at : place ≡ slot_place node row.degree i) where
  abbrev st : Snapshot
  st = state_of v.start v.words log

  -- the slot after the log: its row, its word, and where the word lies
  pub slot_later : (r : InnerRow) × (st.pieces node ≡ Some (Inner r)) × (r.degree ≡ row.degree)
      × ((word : ℕ) × (slice_get r.slots i ≡ Some word)
      × (slice_get (words_of (Inner r)) (4 + length r.keys + i) ≡ Some word)
      × (place ≡ node + (4 + length r.keys + i)))
  slot_later = let it = inner_later v s log m node row there in let r = it.0 in
      let shape : HasDegree r = shaped v.start v.words log m.lawful.enabled node (Inner r) it.1 in
      let slots = shape.slots in let keys = shape.keys in let degree = it.2 in
      let word = slice_get-get_or r.slots i 0 (omega arith) in
      (r, it.1, it.2, (_, word, get-words_of_slot r i ∙ word, at ∙ omega arith))

-- a caller may load a slot of an inner row, and so pass it if the row is marked
pub can_load_pass : (v : View) (node i place : ℕ) → IsSound v → CanLoadPass v node i place
    → CanLoadAs v place (pass_of v node i)
can_load_pass v node i place s can = record {
  known = λ log m.
      let it = slot_later v s log m node i place can.row can.published can.within can.at in (
        it.3.0,
        subst (λ p. IsShown (state_of v.start v.words log) p it.3.0) (sym it.3.3)
            (shown_row node (Inner it.0) (4 + length it.0.keys + i) it.1 it.3.2),
      );
  comes = pass_comes;
}
  where
    pass_comes : (log : Log) (m : MayCome v log) (word : ℕ)
        → IsShown (state_of v.start v.words log) place word → (event : Event)
        → pass_of v node i log word ≡ Some event → CanMake v event × LeavesAt v log event place word
    pass_comes log m word shown event named = let t = state_of v.start v.words log in
        let it = slot_later v s log m node i place can.row can.published can.within can.at in
        let r = it.0 in
        let same = shown_in_row v.start v.words log m.lawful.enabled node (Inner r)
        (4 + length r.keys + i) it.3.0 it.1 it.3.2 place word shown it.3.3 in
        let tests = if_some (is_marked (as_inner (t.pieces node))
        && (not (is_change_ref (ref_of word)) && not (word == unset_word)))
        (Pass (number_of v.who) node i word) event named in
        let both = both_true (is_marked (as_inner (t.pieces node)))
        (not (is_change_ref (ref_of word)) && not (word == unset_word)) tests.0 in
        let rest = both_true (not (is_change_ref (ref_of word))) (not (word == unset_word)) both.1 in
        let marked = eqb-true r.status marked_word
        (sym (ap (λ o. is_marked (as_inner o)) it.1) ∙ both.0) in
        let number = ap number_of can.mine in
        let enabled : Enabled (start v.start v.words) log (Pass (number_of v.who) node i word) =
        record {
          known = subst (λ n. n < t.callers) (sym number) (low v s log m can.number can.mine);
          row = r;
          published = it.1;
          marked = marked;
          in_slot = it.3.1 ∙ ap (λ x. Some x) (sym same);
          no_change = no_change (ref_of word) rest.0;
          set = not_true word unset_word rest.1;
        } in
        let mine : whose (Pass (number_of v.who) node i word) ≡ v.who =
        ap Caller number ∙ sym can.mine in
        let at_place : place_of_slot t node i ≡ place =
        place_inner t node i r it.1 (not_anchor v s log m node r it.1) ∙ ap
        (λ d. slot_place node d i) it.2 ∙ sym can.at in (
          subst (CanMake v) tests.1 record { mine = mine; stored = tt; allowed = tt },
          subst (λ e. LeavesAt v log e place word) tests.1 record {
            enabled = enabled;
            leaves = inl (ap (λ p. Some record { place = p; found = word; left = word }) at_place);
          },
        )

-- a caller may give up a pair row by a load
pub can_load_past : (v : View) (pair node : ℕ) → IsSound v → CanLoadPast v pair node
    → CanLoadAs v (node + inner_status_offset) (past_of v pair)
can_load_past v pair node s can = record {
  known = λ log m. let it = inner_later v s log m node can.row can.published in
      (it.0.status, shown_row node (Inner it.0) 0 it.1 refl);
  comes = past_comes;
}
  where
    past_comes : (log : Log) (m : MayCome v log) (word : ℕ)
        → IsShown (state_of v.start v.words log) (node + inner_status_offset) word → (event : Event)
        → past_of v pair log word ≡ Some event → CanMake v event
        × LeavesAt v log event (node + inner_status_offset) word
    past_comes log m word shown event named = let t = state_of v.start v.words log in
        let it = inner_later v s log m node can.row can.published in
        let number = ap number_of can.mine in
        let is = some_one (Lose (number_of v.who) (pair ∷ [])) event named in
        let held = held_later v.start v.words record {
          caller = can.number;
          base = pair;
          size = pair_words;
        } v.log log m.lawful.enabled
        (subst (λ w. Later w v.log log) can.mine m.later) can.held in
        let enabled : Enabled (start v.start v.words) log (Lose (number_of v.who) (pair ∷ [])) =
        record {
          known = subst (λ n. n < t.callers) (sym number) (low v s log m can.number can.mine);
          cause = inl record {
            pair = pair;
            bases_are = refl;
            held = subst (λ n. HoldsRow t n pair pair_words) (sym number) held;
            node = node;
            row = it.0;
            published = it.1;
            above = can.above;
          };
        } in
        let mine : whose (Lose (number_of v.who) (pair ∷ [])) ≡ v.who =
        ap Caller number ∙ sym can.mine in (
          subst (CanMake v) is record { mine = mine; stored = tt; allowed = tt },
          subst (λ e. LeavesAt v log e (node + inner_status_offset) word) is record {
            enabled = enabled;
            leaves = inr refl;
          },
        )
