-- Deciding: when it may be made, and what it lets it know. Serves `decide`.
use Rattle.std.proofs.Common.{◌≡◌, ◌≢◌, ℕ, ◌+◌, ◌<◌, ◌⊎◌, ◌&&◌, ◌==◌, Bool, true, false, if◌then◌else◌, Some, None, refl, sym, ap, ap₂, ◌∙◌, subst, inl, inr, arith, List}
use Rattle.std.proofs.lemmas.Bool.Decides.{eqb_tells}
use Rattle.ist_core.specs.declared.states.InnerRow.{InnerRow}
use Rattle.ist_core.specs.declared.states.ChangeRow.{ChangeRow}
use Rattle.ist_core.specs.declared.events.Event.TheVariants.{Okay, Decide}
use Rattle.ist_core.specs.declared.events.Who.TheVariants.{Caller}
use Rattle.ist_core.specs.declared.pairs.Pair.{Pair}
use Rattle.ist_core.specs.WordTerms.{change_decision_offset, change_node_offset, open_word, undecided, decided_yes, Inner, Change, as_change, IsOpen, anchor_is, row_is, anchor_slot_place}
use Rattle.ist_core.specs.LogTerms.{Snapshot, decision_word, Log, Happened, Okays, state_of, IsShown, shown_status, shown_row, Lawful, GoesOn}
use Rattle.ist_core.specs.TreeTerms.{AllGrow, ChangeGrows, MayBe, place_of_status}
use Rattle.ist_core.proofs.AllLogLemmas.{inner_there, change_there, grow_between, status_open, happened_later, next_within, words_same}
use Rattle.ist_rule.specs.RuleTerms.{IsSound, now, made_after, LoadedAs, as_event, as_load, MayCome, CanExchange, IsNode, is_anchor, is_inner, number_of, waits, okay_of, WentOn, Looked}
use Rattle.ist_rule.specs.declared.view.View.{View}
use Rattle.ist_core.proofs.AllPlaceLemmas.{both_true, next_after_fixed}
use Rattle.ist_rule.proofs.LaterLemmas.{later-goes_on}
use Rattle.ist_rule.proofs.EventLemmas.{callers_later, looked_goes_on}
use Rattle.ist_rule.proofs.WatchLemmas.{shown_in_row, change_node, if_some, status_place_inner, status_place_anchor}
use Rattle.ist_dcss.specs.Helping.{MayHelp, Serves}
use Rattle.ist_dcss.specs.HelpEvents.{settled, okayed, closed, IsField, deciding, IsDecidable}
use Rattle.ist_rule.proofs.WentOnLemmas.{looked_went, logged_load_went, went_now, went_more, went_who, goes_on_grow}
use Rattle.ist_dcss.proofs.ResolvedLemmas.{went_row}
use Rattle.ist_dcss.proofs.SlotPlaceLemmas.{no_anchor}
use Rattle.ist_dcss.proofs.FieldLemmas.{field_now, row_low, row_above, looked_row}

-- a node that is open was open
pub open_before : (t u : Snapshot) → AllGrow t.pieces u.pieces → (node : ℕ) → IsNode t node
    → IsOpen u node → IsOpen t node
open_before t u g node is (anchor_is e) = anchor_is e
open_before t u g node (is_anchor f) (row_is q e o) = anchor_is f
open_before t u g node (is_inner p f) (row_is q e o) =
    let on = inner_there t.pieces u.pieces g node p f in
    let same : Some (Inner on.0) ≡ Some (Inner q) = sym on.1 ∙ e in
    row_is p f (status_open p.status on.0.status on.2.status (status_is on.0 q same ∙ o))
  where
    status_is : (a b : InnerRow) → Some (Inner a) ≡ Some (Inner b) → a.status ≡ b.status
    status_is a b e = let same : a ≡ b = cc in ap (λ r. r.status) same

-- after each log that may come an installed change may be decided so, if it is undecided there
module _ (v : View) (s : IsSound v) (change number : ℕ) (mine : v.who ≡ Caller number)
    (row : ChangeRow) (installed : (now v).pieces change ≡ Some (Change row)) where
  -- the change after such a log
  pub row_after : (log : Log) → MayCome v log → (r : ChangeRow)
      × ((state_of v.start v.words log).pieces change ≡ Some (Change r)) × ChangeGrows row r
  row_after log m = change_there (now v).pieces (state_of v.start v.words log).pieces
      (grow_between v.start v.words v.log log m.lawful.enabled (later-goes_on m.later)) change
      row installed

  -- the caller is a caller of the table
  pub number_low : (log : Log) → MayCome v log → number < (state_of v.start v.words log).callers
  number_low log m = grind (arith, callers_later)

  -- what was known of the change is enough still
  outcome : (said : Bool) → IsDecidable v change row said → (log : Log) (m : MayCome v log)
      → (r : ChangeRow) → ChangeGrows row r → r.decision ≡ undecided
      → MayBe (state_of v.start v.words log) log change r said
  outcome said (settled set) log m r g unset = absurd (set (sym (g.decided set) ∙ unset))
  outcome _ (okayed h) log m r g unset = happened_later _ (later-goes_on m.later) h
  outcome _ (closed shut) log m r g unset = let u = state_of v.start v.words log in
      λ opened. shut (open_before (now v) u
      (grow_between v.start v.words v.log log m.lawful.enabled (later-goes_on m.later)) row.node
      (change_node v.start v.words v.log s.lawful.enabled change row installed)
      (subst (IsOpen u) (ap (λ x. x.node) g.others) opened))

  -- a caller may decide a change by what it knows of it
  pub can_decide : (said : Bool) → IsDecidable v change row said → (place new : ℕ)
      → place ≡ change + change_decision_offset → new ≡ decision_word said
      → CanExchange v place undecided new (Decide number change said)
  can_decide said ready place new at new_is = record {
    make = record { mine = sym mine; stored = tt; allowed = tt };
    known = λ log m.
        let r = row_after log m in (
          r.0.decision,
          subst (λ p. IsShown (state_of v.start v.words log) p r.0.decision) (sym at)
              (shown_row change (Change r.0) 0 r.1 refl),
        );
    comes = λ log m shown. let r = row_after log m in
        let unset : r.0.decision ≡ undecided =
        sym (shown_in_row v.start v.words log m.lawful.enabled change (Change r.0) 0
        r.0.decision r.1 refl place undecided shown at) in
        record {
          enabled = record {
            known = number_low log m;
            change = r.0;
            pending = record { published = r.1; unset = unset };
            outcome = outcome said ready log m r.0 r.2 unset;
          };
          touches = ap₂ (λ p n. Some record { place = p; found = undecided; left = n })
              (sym at) (sym new_is);
        };
  }

-- ---- what the load of the status says

-- the status of an open node is shown as open
pub open_shown : (v : View) → IsSound v → (node : ℕ) → IsOpen (now v) node
    → IsShown (now v) (place_of_status node) open_word
open_shown v s node (anchor_is e) =
    subst (λ p. IsShown (now v) p open_word) (sym (status_place_anchor node e)) shown_status
open_shown v s node (row_is q e o) = subst (λ p. IsShown (now v) p open_word)
    (sym (status_place_inner node (no_anchor v.start v.words v.log s.lawful.enabled node q e)))
    (shown_row node (Inner q) 0 e (ap Some o))

-- if a test names an event and none is named, the test fails
pub not_named : {A : Type 0} (b : Bool) (x : A) → (if b then Some x else None) ≡ None → b ≡ false
not_named true x e = absurd (cc)
not_named false x e = refl

-- a caller that loaded the status helped
pub okay_went : (v : View) (change place word : ℕ) (w : View)
    → LoadedAs v (okay_of v change) place word w → WentOn (Serves change) v w
okay_went v change place word w (as_event event l named) =
    let it = if_some ((word == open_word)
    && waits (as_change ((state_of v.start v.words l.before).pieces change)))
    (Okay (number_of v.who) change) event named in
    logged_load_went (Serves change) v event place word w l (subst (Serves change) it.1 refl)
    (subst (λ e. made_after e v.made ≡ v.made) it.1 refl)
okay_went v change place word w (as_load l none) = looked_went (Serves change) v place word w l

-- the change is ready for a yes if the load gave an open node, and for a no otherwise
okay_ready : (v : View) (change place word : ℕ) (w : View) (node : ℕ) (r : ChangeRow)
    → place ≡ place_of_status node → (l : LoadedAs v (okay_of v change) place word w)
    → (now w).pieces change ≡ Some (Change r) → r.node ≡ node
    → IsDecidable w change r (word == open_word)
okay_ready v change place word w node r at (as_event event l named) here same =
    let t = state_of v.start v.words l.before in
    let it = if_some ((word == open_word) && waits (as_change (t.pieces change)))
    (Okay (number_of v.who) change) event named in
    let both = both_true (word == open_word) (waits (as_change (t.pieces change))) it.0 in
    let happened : Happened (Okays change) w.log =
    subst (Happened (Okays change)) (sym (ap (λ x. x.log) l.view))
    (inl (subst (Okays change) it.1 refl)) in
    subst (IsDecidable w change r) (sym both.0) (okayed happened)
okay_ready v change place word w node r at (as_load l none) here same =
    by_word (eqb_tells word open_word)
  where
    set_when : (r.decision == undecided) ≡ false → r.decision ≢ undecided
    set_when e is = cc (sym e ∙ ap (λ d. d == undecided) is)

    by_word : (((word == open_word) ≡ true) × (word ≡ open_word))
        ⊎ (((word == open_word) ≡ false) × (word ≢ open_word))
        → IsDecidable w change r (word == open_word)
    by_word (inl k) = let t = state_of v.start v.words w.log in
        let is = went_now (Serves change) v w (looked_went (Serves change) v place word w l) in
        let piece : t.pieces change ≡ Some (Change r) = ap (λ u. u.pieces change) (sym is) ∙ here in
        let off : ((word == open_word) && waits (as_change (t.pieces change))) ≡ false =
        not_named ((word == open_word) && waits (as_change (t.pieces change)))
        (Okay (number_of v.who) change) none in
        let rest : (r.decision == undecided) ≡ false =
        ap (λ o. waits (as_change o)) (sym piece)
        ∙ ap (λ b. b && waits (as_change (t.pieces change))) (sym k.0) ∙ off in
        settled (set_when rest)
    by_word (inr k) = subst (IsDecidable w change r) (sym k.0)
        (closed (λ is. k.1 (l.stood open_word
        (subst (λ p. IsShown (now w) p open_word) (ap place_of_status same ∙ sym at)
        (open_shown w l.sound r.node is)))))

-- what a helper knows once it loaded the status of the node
pub record MayDecide (change number : ℕ) (said : Bool) (v w : View) : Type 0 where
  pub went : WentOn (Serves change) v w
  pub mine : w.who ≡ Caller number
  pub row : ChangeRow
  pub published : (now w).pieces change ≡ Some (Change row)
  pub ready : IsDecidable w change row said

-- the helper may decide the change by that word
pub may_decide : (v : View) (change : ℕ) (m : MayHelp v change) (u : View) → WentOn (Serves change) v u
    → (node : ℕ) → IsField u change change_node_offset node → (place : ℕ)
    → place ≡ place_of_status node → (word : ℕ) (w : View)
    → LoadedAs u (okay_of u change) place word w → MayDecide change m.number (word == open_word) v w
may_decide v change m u h node field place at word w l =
    let more = okay_went u change place word w l in
    let all = went_more (Serves change) v u w h more in
    let on = went_row (Serves change) change u w more field.row field.published in
    let same : node ≡ field.row.node = field_now u change change_node_offset node field
    (λ r. r.node) (λ r. refl) field.row field.published in
    record {
      went = all;
      mine = went_who (Serves change) v w all ∙ m.mine;
      row = on.0;
      published = on.1;
      ready = okay_ready u change place word w node on.0 at l on.1
          (ap (λ x. x.node) on.2.others ∙ sym same);
    }

said_word : (b : Bool) → (decision_word b == decided_yes) ≡ b
said_word true = refl
said_word false = refl

-- the event that the exchange of a decision names
pub deciding_is : (v : View) (number change place new : ℕ) (said : Bool) → v.who ≡ Caller number
    → place ≡ change → new ≡ decision_word said → deciding v place new ≡ Decide number change said
deciding_is v number change place new said who at is = grind (arith, said_word)

-- ---- whether a node is open, as a load of its status says. Serves `is_open` and
-- `laws.nodes_close_once`.

-- ---- a load of a status

-- the status of a node lies within the table
pub status_low : (v : View) → IsSound v → (node : ℕ) → IsNode (now v) node
    → place_of_status node < v.words
status_low v s node (is_anchor e) =
    grind (arith, status_place_anchor, next_within, next_after_fixed, words_same)
status_low v s node (is_inner r e) =
    let at = status_place_inner node (no_anchor v.start v.words v.log s.lawful.enabled node r e) in
    let low = (row_low v s node (Inner r) e 0 (omega arith)).0 in omega arith

-- and isn't the anchor's slot
pub status_off : (v : View) → IsSound v → (node : ℕ) → IsNode (now v) node
    → place_of_status node ≢ anchor_slot_place
status_off v s node (is_anchor e) same = let at = status_place_anchor node e in absurd (omega arith)
status_off v s node (is_inner r e) same = grind (arith, status_place_inner, no_anchor, row_above)

-- a load of it that gives the word of open shows the node open
pub shows_open : (v : View) → IsSound v → (node place word : ℕ) (w : View) → Looked v place word w
    → IsNode (now v) node → place ≡ place_of_status node → word ≡ open_word → IsOpen (now w) node
shows_open v s node place word w l (is_anchor e) at is = anchor_is e
shows_open v s node place word w l (is_inner r e) at is = let g = looked_goes_on v place word w l in
    let on = inner_there (now v).pieces (now w).pieces (goes_on_grow v w g) node r e in
    let here = status_place_inner node
    (no_anchor v.start v.words v.log s.lawful.enabled node r e) in
    let read = looked_row v place word w l node (Inner on.0) 0 on.0.status on.1 refl (omega arith) in
    row_is on.0 on.1 (sym read ∙ is)

-- if the node is open, the load gives that word
pub open_shows : (v : View) (node place word : ℕ) (w : View) → Looked v place word w
    → place ≡ place_of_status node → IsOpen (now w) node → word ≡ open_word
open_shows v node place word w l at is = l.stood open_word
    (subst (λ p. IsShown (now w) p open_word) (sym at) (open_shown w l.sound node is))

-- ---- nodes that aren't open

-- a node that isn't open is never open again
pub closed_node_stays : (pairs : List Pair) (words : ℕ) (earlier log : Log) → Lawful pairs words log
    → GoesOn earlier log → (node : ℕ) → IsNode (state_of pairs words earlier) node
    → ¬ (IsOpen (state_of pairs words earlier) node) → ¬ (IsOpen (state_of pairs words log) node)
closed_node_stays pairs words earlier log lawful g node is shut opened =
    shut (open_before (state_of pairs words earlier) (state_of pairs words log)
    (grow_between pairs words earlier log lawful.enabled g) node is opened)
