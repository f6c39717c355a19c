-- A start whose rows are filled may be installed. Serves `start`.
use Rattle.std.proofs.Common.{◌≢◌, ℕ, ⊎_elim, arith, ◌≡◌, refl, sym, ap, ap₂, ◌∙◌, subst, inl, inr}
use Rattle.ist_core.specs.declared.lists.HeldRow.{HeldRow}
use Rattle.ist_core.specs.declared.events.Event.{Event}
use Rattle.ist_core.specs.declared.events.Event.TheVariants.{Reserve}
use Rattle.ist_core.specs.LogTerms.{Among, HoldsRows, HoldsRow, state_of, Snapshot}
use Rattle.ist_core.specs.TreeTerms.{new_rebuild, Apart, IsUnrefused, FitsKind, a_start, Linked, WasLinked, IsUpdate}
use Rattle.ist_core.specs.WordTerms.{Change, words_of, IsGoodBase, change_words, rebuild_words, Inner, word_of, InnerAt, RebuildAt, SlotHolds, in_anchor, in_row, start, start_kind}
use Rattle.ist_core.proofs.AllPlaceLemmas.{placed, claimed_within, claimed_apart}
use Rattle.ist_core.proofs.AllLogLemmas.{next_within, words_same, grow_between, inner_there, slot_remains, due_later, ever_later}
use Rattle.ist_rule.specs.RuleTerms.{StoredAll, now, IsSound, IsResolved, WentOn, GoesOnTo, IsNode, is_anchor, is_inner}
use Rattle.ist_rule.specs.declared.view.View.{View}
use Rattle.ist_rows.specs.RowTerms.{storing_all, IsCaller, InstallsNone, IsQuiet}
use Rattle.ist_rows.specs.declared.callers.Caller.{Caller}
use Rattle.ist_rows.specs.declared.kinds.Kind.TheVariants.{Change as ChangeKind, Rebuild as RebuildKind}
use Rattle.ist_rows.proofs.FillingLemmas.{stored_at, stored_first}
use Rattle.ist_dcss.specs.Installing.{rows_of, IsInstallable}
use Rattle.ist_rebuild.specs.StartSteps.{HasStartRows, filled_start, start_change, start_filling, IsStartReady}
use Rattle.ist_build.specs.Laying.{IsReservation}
use Rattle.ist_core.proofs.AllWordLemmas.{ref_of-word_of}
use Rattle.ist_rule.proofs.LaterLemmas.{goes_on_more, later-goes_on}
use Rattle.ist_rule.proofs.WentOnLemmas.{goes_on_grow, later_by-goes_on, went_all, went_grow}
use Rattle.ist_rows.proofs.CallerLawLemmas.{resolved_went}
use Rattle.ist_rebuild.specs.Starting.{MayStart}

-- ---- the rows of a start that a caller holds, and what filling them leaves. Serves `fill_rows` and
-- `start`.

-- a held row lies at a good base
pub held_good : (v : View) → IsSound v → (h : HeldRow) → Among h (now v).held → IsGoodBase h.base
held_good v s h i =
    let claim = claimed_within v.start v.words v.log h.base h.size s.lawful.enabled
    ((placed v.start v.words v.log s.lawful.enabled).held h i) in
    let low = claim.after_fixed in let some = claim.some in let high = claim.below_next in
    let next = next_within v.start v.words s.lawful.opens v.log s.lawful.enabled in
    let all = words_same v.start v.words s.lawful.opens v.log in
    let small = s.lawful.opens.within in record { after_fixed = low; below_limit = omega arith }

-- two held rows of different sizes share no word
pub held_apart : (v : View) → IsSound v → (g h : HeldRow) → Among g (now v).held
    → Among h (now v).held → g.size ≢ h.size → Apart g.base g.size h.base h.size
held_apart v s g h i j differ = let place = placed v.start v.words v.log s.lawful.enabled in
    ⊎_elim (λ same. absurd (differ same.1)) (λ a. a.1)
    (claimed_apart v.start v.words v.log g.base g.size h.base h.size s.lawful.enabled
    (place.held g i) (place.held h j))

module _ (who : Caller) (rebuild change : ℕ) (rows : HasStartRows who rebuild change)
    (c : IsCaller who) where
  -- the caller holds the rebuild's row
  pub rebuild_held : HoldsRow (now who.token.view) who.number rebuild rebuild_words
  rebuild_held = c.rows RebuildKind rebuild rows.rebuild_is

  -- the caller holds the change's row
  pub change_held : HoldsRow (now who.token.view) who.number change change_words
  change_held = c.rows ChangeKind change rows.change_is

  -- the base of the rebuild is good
  pub rebuild_good : IsSound who.token.view → IsGoodBase rebuild
  rebuild_good s = grind (arith, held_good, rebuild_held)

  -- the two rows don't overlap
  pub rows_apart : IsSound who.token.view → Apart rebuild rebuild_words change change_words
  rows_apart s = grind (arith, held_apart, rebuild_held, change_held)

  module _ (s : IsSound who.token.view) (parent index target : ℕ) where
    abbrev full : Caller
    full = filled_start who rebuild change parent index target

    -- the words of both rows are stored
    pub start_stored : StoredAll full.token.view
        (rows_of (start_filling who.number parent index target rebuild) change)
    start_stored = let row = start_change who.number parent index target rebuild in
        let words = words_of (new_rebuild row target) in
        let first = storing_all who.token.view.own rebuild words in (
          stored_at first change (words_of (Change row)),
          (
            stored_first who.token.view.own rebuild words change (words_of (Change row))
                (rows_apart s),
            tt,
          ),
        )

    -- the caller holds the rows of the start
    pub start_held : HoldsRows (now who.token.view) who.number
        (rows_of (start_filling who.number parent index target rebuild) change)
    start_held = (change_held, (rebuild_held, tt))

-- ---- the slot and the target

-- the slot of the start is still a slot
pub start_slot : (v : View) → IsSound v → (parent index target : ℕ) → MayStart v parent index target
    → (word : ℕ) × SlotHolds (now v) parent index word
start_slot v s parent index target m = slot_remains (state_of v.start v.words m.prefix) (now v)
    (grow_between v.start v.words m.prefix v.log s.lawful.enabled m.goes_on) parent index _ m.stood

-- the parent is a node
pub start_node : (v : View) → IsSound v → (parent index target : ℕ) → MayStart v parent index target
    → IsNode (now v) parent
start_node v s parent index target m = let slot = start_slot v s parent index target m in
    at (now v) slot.0 slot.1
  where
    at : (t : Snapshot) (word : ℕ) → SlotHolds t parent index word → IsNode t parent
    at t word (in_anchor e f is) = is_anchor e
    at t word (in_row r e f) = is_inner r e

-- the target's base is good
pub target_good : (v : View) → IsSound v → (parent index target : ℕ)
    → MayStart v parent index target → IsGoodBase target
target_good v s parent index target m =
    let claim = claimed_within v.start v.words v.log target _ s.lawful.enabled
    ((placed v.start v.words v.log s.lawful.enabled).published target (Inner m.row) m.published) in
    let low = claim.after_fixed in let some = claim.some in let high = claim.below_next in
    let next = next_within v.start v.words s.lawful.opens v.log s.lawful.enabled in
    let all = words_same v.start v.words s.lawful.opens v.log in
    let small = s.lawful.opens.within in record { after_fixed = low; below_limit = omega arith }

-- ---- what stays while the caller reserves

-- a reserving installs nothing
pub reserving_installs : (event : Event) → IsReservation event → InstallsNone event
reserving_installs (Reserve c base size) is = tt
reserving_installs _ is = absurd is

-- a caller that reserved is in its call, and all its changes are resolved
pub reserved_quiet : (old new : Caller) → IsCaller old → new.number ≡ old.number
    → WentOn IsReservation old.token.view new.token.view → IsQuiet old → IsQuiet new
reserved_quiet old new c same g q = record {
  pending = q.pending;
  in_call = ap (λ (x : View). x.pending) g.same ∙ q.in_call;
  resolved = subst (IsResolved new.token.view) (sym same)
      (resolved_went old.token.view new.token.view old.number c.mine q.resolved
      (went_all IsReservation InstallsNone reserving_installs old.token.view new.token.view g));
}

-- a caller that may start may do so still once it made loads
pub may_start_on : (v w : View) (parent index target : ℕ) → GoesOnTo v w
    → MayStart v parent index target → MayStart w parent index target
may_start_on v w parent index target g m = let start_is = ap (λ (x : View). x.start) g.same in
    let words_is = ap (λ (x : View). x.words) g.same in
    let row = inner_there (now v).pieces (now w).pieces (goes_on_grow v w g) target m.row
    m.published in
    record {
      prefix = m.prefix;
      goes_on = goes_on_more m.goes_on (later-goes_on g.later);
      stood = subst (λ t. SlotHolds t parent index (word_of (InnerAt target)))
          (sym (ap₂ (λ p n. state_of p n m.prefix) start_is words_is)) m.stood;
      linked = subst (λ t. WasLinked t w.log parent) (sym (ap₂ start start_is words_is))
          (ever_later (start v.start v.words) (λ t. Linked t parent)
          (later-goes_on g.later) m.linked);
      row = row.0;
      published = row.1;
      due = ⊎_elim (λ due. inl (due_later m.row row.0 row.2 due)) (λ top. inr top) m.due;
    }

-- a caller that has filled the rows of a start is quiet
pub filled_quiet : (mid who : Caller) (rebuild change parent index target : ℕ)
    → who ≡ filled_start mid rebuild change parent index target → IsQuiet mid → IsQuiet who
filled_quiet mid who rebuild change parent index target is q = grind arith

-- ---- the install

module _ (v : View) (parent index target : ℕ) (m : MayStart v parent index target)
    (mid who : Caller) (rebuild change : ℕ) (rows : HasStartRows mid rebuild change)
    (c : IsCaller mid) (g : WentOn IsReservation v mid.token.view) (quiet : IsQuiet mid)
    (none : IsUnrefused (now mid.token.view) mid.number parent)
    (is : who ≡ filled_start mid rebuild change parent index target) (cw : IsCaller who) where
  abbrev u : View
  u = mid.token.view

  abbrev started : Caller
  started = filled_start mid rebuild change parent index target

  s : IsSound mid.token.view
  s = g.sound

  fits : IsSound v → FitsKind (start u.start u.words) u.log
      (start_change mid.number parent index target rebuild)
      (start_filling mid.number parent index target rebuild).fresh
  fits sv =
      let row = inner_there (now v).pieces (now u).pieces (went_grow IsReservation v u g) target m.row
      m.published in
      a_start record {
        kind = refl;
        key = refl;
        value = refl;
        target = target;
        row = row.0;
        from = ref_of-word_of (InnerAt target) (target_good v sv parent index target m);
        published = row.1;
        due = ⊎_elim (λ due. inl (due_later m.row row.0 row.2 due)) (λ top. inr top) m.due;
        rebuild = rebuild;
        to = ref_of-word_of (RebuildAt rebuild) (rebuild_good mid rebuild change rows c s);
        fresh_are = refl;
      }

  no_update : IsUpdate start_kind → ⊥
  no_update (inl e) = let three : ◌≡◌ {A = ℕ} 3 1 = e in omega arith
  no_update (inr e) = let three : ◌≡◌ {A = ℕ} 3 2 = e in omega arith

  linked : WasLinked (start u.start u.words) u.log parent
  linked = grind (arith, ever_later, later_by-goes_on)

  -- the change may be installed, with the view in which the rows are filled
  installable : IsSound v → IsInstallable started.token.view change
      (start_filling mid.number parent index target rebuild)
  installable sv = let slot = start_slot v sv parent index target m in
      let here = slot_remains (now v) (now u) (went_grow IsReservation v u g) parent index slot.0 slot.1 in
      record {
        number = mid.number;
        mine = c.mine;
        held = start_held mid rebuild change rows c s parent index target;
        stored = start_stored mid rebuild change rows c s parent index target;
        owned = refl;
        unset = refl;
        word = here.0;
        slot = here.1;
        linked = linked;
        unrefused = none;
        fits = fits sv;
        allowed = record {
          pending = quiet.pending;
          in_call = quiet.in_call;
          resolved = quiet.resolved;
          command = λ up. absurd (no_update up);
          none_yet = λ up. absurd (no_update up);
        };
      }

  -- the caller that has filled the rows is ready
  pub start_ready : IsSound v → IsStartReady who rebuild change
      (start_filling who.number parent index target rebuild)
  start_ready sv = grind (arith, filled_quiet, installable)
