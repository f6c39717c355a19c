-- Okays, Decides and Resolves stay enabled under events of others. Serves their clauses.
use Rattle.std.proofs.Common.{Bool, List, None, Some, ap, false, if◌then◌else◌, refl, subst, sym, true, ℕ, ⊎_elim, ◌*◌, ◌+◌, ◌∙◌, ◌≡◌, ◌≢◌, length, arith}
use Rattle.std.proofs.lemmas.Bool.Decides.{eqb_tells}
use Rattle.ist_core.specs.declared.events.Event.TheVariants.{Decide, Okay, Resolve, Finish, Mark, Pass}
use Rattle.ist_core.specs.declared.pairs.Pair.{Pair}
use Rattle.ist_core.specs.declared.states.ChangeRow.{ChangeRow}
use Rattle.ist_core.specs.declared.states.InnerRow.{InnerRow}
use Rattle.ist_core.specs.TreeTerms.{CanDecide, CanOkay, CanResolve, MayBe, AllGrow, ChangeGrows, place_of_status, touch_of_okay, touch_of_resolve, CanFinish, CanMark, CanPass, IsCalled, as_child, as_target, after_rebuild, AllResolvedOf, IsPending}
use Rattle.ist_core.specs.LogTerms.{CanOpen, EachEnabled, state_of, GoesOn, Log, Okays, Snapshot, IsShown, Passes}
use Rattle.ist_core.specs.WordTerms.{Change, Inner, as_change, ChangeAt, word_of, anchor, anchor_status_place, inner_status_offset, IsOpen, SlotHolds, anchor_is, in_anchor, in_row, row_is, start, open_word, undecided}
use Rattle.ist_core.proofs.AllLogLemmas.{enabled_before, grow_between, change_there, inner_there, row_word, happened_later, closed_on}
use Rattle.ist_core.proofs.AllPlaceLemmas.{anchor_free, no_row}
use Rattle.laws_links.proofs.ChangeLemmas.{undecided_stands, undecided_unresolved}
use Rattle.laws_stability.specs.Meanwhile.{IsStillUndecided, IsMarked, NoneAccepted, NoneRefused}
use Rattle.laws_stability.specs.Words.{FindsItsWord}
use Rattle.laws_stability.proofs.LaterLemmas.{known_later}
use Rattle.laws_stability.proofs.HoldingLemmas.{finds, slot_later, slot_of_row}
use Rattle.ist_core.proofs.AllWordLemmas.{same_inner}
use Rattle.laws_links.proofs.FinishedLemmas.{passed_later, target_grows}
use Rattle.laws_links.proofs.FormLemmas.{started_grows}

-- if the node of a change in its slot isn't open, it is never open again
closed_later : (t u : Snapshot) → AllGrow t.pieces u.pieces → u.pieces anchor ≡ None
    → (node i word : ℕ) → SlotHolds t node i word → ¬ (IsOpen t node) → ¬ (IsOpen u node)
closed_later t u g free node i word (in_anchor a b e) closed opened = closed (anchor_is a)
closed_later t u g free node i word (in_row r p at) closed (anchor_is a) =
    let it = inner_there t.pieces u.pieces g node r p in no_row u.pieces node it.0 free a it.1
closed_later t u g free node i word (in_row r p at) closed (row_is s e is) =
    let it = inner_there t.pieces u.pieces g node r p in
    let same = same_inner (u.pieces node) it.0 s it.1 e in
    closed_on r.status it.0.status it.2.status (λ o. closed (row_is r p o))
    (ap (λ x. x.status) same ∙ is)

module _ (pairs : List Pair) (words : ℕ) (opens : CanOpen pairs words) (earlier log : Log)
    (on : GoesOn earlier log) (h : EachEnabled (start pairs words) log) where
  -- the change after the longer log
  change_later : (base : ℕ) (r : ChangeRow) → (state_of pairs words earlier).pieces base ≡ Some
      (Change r) → (s : ChangeRow) × ((state_of pairs words log).pieces base ≡ Some (Change s))
      × ChangeGrows r s
  change_later base r e = grind (arith, change_there, grow_between)

  -- an outcome stays possible
  outcome_later : (base : ℕ) (old new : ChangeRow) (said : Bool)
      → (state_of pairs words earlier).pieces base ≡ Some (Change old) → old.decision ≡ undecided
      → new.node ≡ old.node → MayBe (state_of pairs words earlier) earlier base old said
      → MayBe (state_of pairs words log) log base new said
  outcome_later base old new true e none same may = happened_later (Okays base) on may
  outcome_later base old new false e none same may =
      let before = enabled_before (start pairs words) earlier log on h in
      subst (λ n. ¬ (IsOpen (state_of pairs words log) n)) (sym same)
      (closed_later (state_of pairs words earlier) (state_of pairs words log) (grow_between pairs words earlier log h on)
      (anchor_free pairs words log h)
      old.node old.index (word_of (ChangeAt base))
      (undecided_stands pairs words opens earlier before base old e none) may)

  -- a Decide stays enabled if the change is undecided
  pub decide_stays : (caller base : ℕ) (said : Bool)
      → CanDecide (state_of pairs words earlier) earlier caller base said
      → FindsItsWord (state_of pairs words earlier) (state_of pairs words log)
      (Decide caller base said) → CanDecide (state_of pairs words log) log caller base said
  decide_stays caller base said can f =
      let it = change_later base can.change can.pending.published in
      let has = finds (state_of pairs words earlier) (state_of pairs words log)
      (Decide caller base said) _ refl f in
      record {
        known = known_later (start pairs words) on caller can.known;
        change = it.0;
        pending = record {
          published = it.1;
          unset = sym
              (row_word pairs words log h base 0 it.0.decision
              (Change it.0) it.1 refl _ _ has refl);
        };
        outcome = outcome_later base can.change it.0 said can.pending.published can.pending.unset
            (ap (λ c. c.node) it.2.others) can.outcome;
      }

  -- a Resolve stays enabled if the change is in its slot
  pub resolve_stays : (caller base : ℕ) → CanResolve (state_of pairs words earlier) caller base
      → FindsItsWord (state_of pairs words earlier) (state_of pairs words log) (Resolve caller base)
      → CanResolve (state_of pairs words log) caller base
  resolve_stays caller base can f = let it = change_later base can.change can.published in
      let has = finds (state_of pairs words earlier) (state_of pairs words log)
      (Resolve caller base) _
      (ap (λ o. touch_of_resolve (state_of pairs words earlier) base (as_change o)) can.published)
      f in
      let holds = slot_later pairs words earlier log on h can.change.node can.change.index
      (word_of (ChangeAt base)) can.in_slot (word_of (ChangeAt base)) has in
      record {
        known = known_later (start pairs words) on caller can.known;
        change = it.0;
        published = it.1;
        decided = λ none. can.decided (sym (it.2.decided can.decided) ∙ none);
        in_slot =
            subst (λ n. SlotHolds (state_of pairs words log) n it.0.index (word_of (ChangeAt base)))
            (sym (ap (λ c. c.node) it.2.others))
            (subst (λ i. SlotHolds (state_of pairs words log) can.change.node i
            (word_of (ChangeAt base)))
            (sym (ap (λ c. c.index) it.2.others)) holds);
      }

  -- a node is open if its status is still the open word
  open_later : (node : ℕ) → IsOpen (state_of pairs words earlier) node
      → IsShown (state_of pairs words log) (place_of_status node) open_word
      → IsOpen (state_of pairs words log) node
  open_later node (anchor_is a) has = anchor_is a
  open_later node (row_is r e is) has =
      let it = inner_there (state_of pairs words earlier).pieces
      (state_of pairs words log).pieces (grow_between pairs words earlier log h on) node r e in
      let out : node ≢ anchor = λ a. no_row (state_of pairs words log).pieces node it.0
      (anchor_free pairs words log h) a it.1 in
      ⊎_elim (λ same. absurd (out same.1))
      (λ other.
      let at = ap (λ b. if b then anchor_status_place else node + inner_status_offset) other.0 in
      row_is it.0 it.1
      (sym (row_word pairs words log h node 0 it.0.status (Inner it.0) it.1 refl _ _ has at)))
      (eqb_tells node anchor)

  -- an Okay stays enabled if the node is open and the change is undecided
  pub okay_stays : (caller base : ℕ) → CanOkay (state_of pairs words earlier) caller base
      → FindsItsWord (state_of pairs words earlier) (state_of pairs words log) (Okay caller base)
      → IsStillUndecided (state_of pairs words log) base
      → CanOkay (state_of pairs words log) caller base
  okay_stays caller base can f none = let it = change_later base can.change can.pending.published in
      let has = finds (state_of pairs words earlier) (state_of pairs words log) (Okay caller base) _
      (ap (λ o. touch_of_okay (as_change o)) can.pending.published) f in
      record {
        known = known_later (start pairs words) on caller can.known;
        change = it.0;
        pending = record { published = it.1; unset = none it.0 it.1 };
        node_open =
            subst (λ n. IsOpen (state_of pairs words log) n) (sym (ap (λ c. c.node) it.2.others))
            (open_later can.change.node can.node_open has);
      }

-- ---- marks, Passes and Finishes stay enabled under events of others. Serves their clauses.

-- a cause to mark a node stays
called_later : (t u : Snapshot) → AllGrow t.pieces u.pieces → {earlier log : Log}
    → GoesOn earlier log → (node : ℕ) → IsCalled t earlier node → IsCalled u log node
called_later t u g on node (as_target rebuild has started) =
    as_target rebuild (target_grows t u g rebuild node has) (started_grows t u g rebuild started)
called_later t u g on node (as_child above i word passed is) =
    as_child above i word (happened_later (Passes above i word) on passed) is
called_later t u g on node (after_rebuild above i word rebuild passed is has) =
    after_rebuild above i word rebuild (happened_later (Passes above i word) on passed) is
    (target_grows t u g rebuild node has)

module _ (pairs : List Pair) (words : ℕ) (earlier log : Log) (on : GoesOn earlier log)
    (h : EachEnabled (start pairs words) log) where
  -- the node's row after the longer log
  row_later : (node : ℕ) (r : InnerRow) → (state_of pairs words earlier).pieces node ≡ Some
      (Inner r) → (s : InnerRow) × ((state_of pairs words log).pieces node ≡ Some (Inner s))
      × (length s.slots ≡ length r.slots)
  row_later node r e = grind (arith, inner_there, grow_between)

  -- a Mark stays enabled if the node is open
  pub mark_stays : (caller node : ℕ) → CanMark (state_of pairs words earlier) earlier caller node
      → FindsItsWord (state_of pairs words earlier) (state_of pairs words log) (Mark caller node)
      → CanMark (state_of pairs words log) log caller node
  mark_stays caller node can f = let it = row_later node can.row can.published in
      let has = finds (state_of pairs words earlier) (state_of pairs words log)
      (Mark caller node) _ refl f in
      record {
        known = known_later (start pairs words) on caller can.known;
        row = it.0;
        published = it.1;
        row_open =
            sym (row_word pairs words log h node 0 it.0.status (Inner it.0) it.1 refl _ _ has refl);
        called = called_later (state_of pairs words earlier)
            (state_of pairs words log) (grow_between pairs words earlier log h on) on node can.called;
      }

  -- a Finish stays enabled if the node is marked
  pub finish_stays : (caller node keys : ℕ) → CanFinish
      (state_of pairs words earlier) earlier caller node keys
      → FindsItsWord (state_of pairs words earlier) (state_of pairs words log)
      (Finish caller node keys) → CanFinish (state_of pairs words log) log caller node keys
  finish_stays caller node keys can f = let it = row_later node can.row can.published in
      let has = finds (state_of pairs words earlier) (state_of pairs words log)
      (Finish caller node keys) _ refl f in
      record {
        known = known_later (start pairs words) on caller can.known;
        row = it.0;
        published = it.1;
        marked = sym
            (row_word pairs words log h node 0 it.0.status (Inner it.0) it.1 refl _ _ has refl);
        passed = passed_later (state_of pairs words earlier)
            (state_of pairs words log) (grow_between pairs words earlier log h on) on node 0 keys
            can.row.slots it.0.slots it.2 can.passed;
      }

  -- a Pass stays enabled if the slot holds its word and the node is marked
  pub pass_stays : (caller node i word : ℕ) → CanPass
      (state_of pairs words earlier) caller node i word
      → FindsItsWord (state_of pairs words earlier) (state_of pairs words log)
      (Pass caller node i word) → IsMarked (state_of pairs words log) node
      → CanPass (state_of pairs words log) caller node i word
  pass_stays caller node i word can f marked = let it = row_later node can.row can.published in
      let has = finds (state_of pairs words earlier) (state_of pairs words log)
      (Pass caller node i word) _ refl f in
      record {
        known = known_later (start pairs words) on caller can.known;
        row = it.0;
        published = it.1;
        marked = marked it.0 it.1;
        in_slot = slot_of_row (state_of pairs words log) node i word it.0
            (anchor_free pairs words log h) it.1
            (slot_later pairs words earlier log on h node i word
            (in_row can.row can.published can.in_slot) word has);
        no_change = can.no_change;
        set = can.set;
      }

-- ---- if all that a caller installed is resolved, nothing of it is decided meanwhile. Serves
-- `laws.exposed_events_stay`.

module _ (pairs : List Pair) (words : ℕ) (opens : CanOpen pairs words) (log : Log)
    (h : EachEnabled (start pairs words) log) (caller : ℕ)
    (all : AllResolvedOf (state_of pairs words log) log caller) where
  -- no change of the caller is pending
  none_pending : (base : ℕ) (x : ChangeRow) → IsPending (state_of pairs words log) base x
      → x.owner ≢ caller
  none_pending base x p own = grind (arith, undecided_unresolved)

  -- if all changes of the caller are resolved, none is decided no meanwhile
  pub none_refused : (u : Snapshot) (node : ℕ)
      → NoneRefused (state_of pairs words log) u caller node
  none_refused u node base old new p own on e = absurd (none_pending base old p own)

  -- if all changes of the caller are resolved, none is decided yes meanwhile
  pub none_accepted : (u : Snapshot) → NoneAccepted (state_of pairs words log) u caller
  none_accepted u base old new p own up e = absurd (none_pending base old p own)
