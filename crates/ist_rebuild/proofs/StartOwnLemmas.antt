-- The changes of a caller that starts a rebuild: all except that start are what they were. Serves
-- `start`.
use Rattle.std.proofs.Common.{◌≡◌, ◌≢◌, ◌⊎◌, ℕ, ◌+◌, List, ◌∷◌, Some, sym, ap, ◌∙◌, subst, inl, inr, ⊎_elim, arith, Bool, true, false, Option}
use Rattle.std.proofs.lemmas.Bool.Decides.{eqb_tells}
use Rattle.ist_build.specs.Laying.{IsReservation}
use Rattle.ist_core.specs.declared.events.Event.{Event}
use Rattle.ist_core.specs.declared.events.Event.TheVariants.{Reserve, Install}
use Rattle.ist_core.specs.declared.pairs.Pair.{Pair}
use Rattle.ist_core.specs.declared.states.ChangeRow.{ChangeRow}
use Rattle.ist_core.specs.declared.events.Who.TheVariants.{Caller}
use Rattle.ist_core.specs.declared.states.RebuildRow.{RebuildRow}
use Rattle.ist_core.specs.LogTerms.{GoesOnBy, no_more, one_more, whose, LaterBy, CanOpen, EachEnabled, state_of, Log, Snapshot, after}
use Rattle.ist_core.specs.TreeTerms.{AllResolvedOf, IsUnrefused, AllGrow, ChangeGrows, RebuildGrows}
use Rattle.ist_core.specs.WordTerms.{Change, RebuildAt, ref_of, start, start_kind, decided_yes, Rebuild, Ref, IsGoodBase, word_of, IsOpen, SlotHolds}
use Rattle.ist_core.proofs.AllLogLemmas.{enabled_before, change_there, rebuild_there}
use Rattle.laws_links.proofs.ChangeLemmas.{undecided_unresolved}
use Rattle.laws_links.proofs.ComesLemmas.{change_comes}
use Rattle.laws_links.proofs.PassLemmas.{ChangeComes, change_was, is_decided, is_installed}
use Rattle.laws_stability.proofs.LaterLemmas.{goes_on}
use Rattle.laws_calls.specs.Settling.{IsDoneStart}
use Rattle.laws_calls.proofs.ClosedLemmas.{done_stays, refused_closed}
use Rattle.ist_rule.specs.RuleTerms.{IsResolved, WentOn, now, IsSound}
use Rattle.ist_rule.specs.declared.view.View.{View}
use Rattle.ist_rule.proofs.WentOnLemmas.{went_now, went_lawful, went_grow}
use Rattle.ist_rebuild.specs.Starting.{StartsDoneSince, StartsNone, IsStartedAt, StoodInstead}
use Rattle.ist_core.proofs.AllEventLemmas.{with_installed}
use Rattle.ist_core.proofs.AllPlaceLemmas.{changed_at-fixed, installed_stands}
use Rattle.ist_core.proofs.AllWordLemmas.{ref_of-word_of, with_row-same, with_row-other, same_change}
use Rattle.ist_dcss.specs.Helping.{Serves}
use Rattle.ist_dcss.specs.Installing.{Filling, rows_of, IsOther}
use Rattle.ist_rebuild.specs.StartSteps.{start_change, start_filling}
use Rattle.ist_rebuild.proofs.NeedLemmas.{HasPutIn}

-- the event installs no change of the caller except this one
abbrev pub InstallsBut : ℕ → ℕ → Event → Type 0
InstallsBut caller but (Install by base rows) = by ≡ caller → base ≡ but
InstallsBut caller but _ = Unit {0}

-- an event of another installs no change of this caller
others_but : (caller but : ℕ) (event : Event) → whose event ≢ Caller caller
    → InstallsBut caller but event
others_but caller but (Install by base rows) other = λ same. absurd (other (ap Caller same))
others_but caller but _ other = tt

-- a reserving installs no change
pub reserves_but : (caller but : ℕ) (event : Event) → IsReservation event → InstallsBut caller but event
reserves_but caller but (Reserve by base size) is = tt
reserves_but caller but _ is = absurd is

-- if others made the events, or only that change was installed
either_but : (caller but : ℕ) (P : Event → Type 0)
    → ((event : Event) → P event → InstallsBut caller but event) → (event : Event)
    → (whose event ≢ Caller caller) ⊎ P event → InstallsBut caller but event
either_but caller but P all event e = grind (arith, others_but)

module _ (pairs : List Pair) (words : ℕ) (opens : CanOpen pairs words) where
  -- if all changes of a caller were resolved, each of its changes but this one is what it was
  pub own_stays : (P : Event → Type 0) (earlier : Log) (caller but : ℕ)
      → ((event : Event) → P event → InstallsBut caller but event) → (log : Log)
      → GoesOnBy P earlier log → EachEnabled (start pairs words) log
      → AllResolvedOf (state_of pairs words earlier) earlier caller
      → (base : ℕ) (x : ChangeRow) → (state_of pairs words log).pieces base ≡ Some (Change x)
      → x.owner ≡ caller → base ≢ but → (state_of pairs words earlier).pieces base ≡ Some (Change x)
  own_stays P earlier caller but only _ no_more h resolved base x e own ne = e
  own_stays P earlier caller but only _ (one_more {log = log} event later p) h resolved base x e own
      ne =
      at event h (only event p) (change_comes pairs words log event h base x e)
      (λ y old mine. own_stays P earlier caller but only log later h.0 resolved base y old mine ne)
    where
      at : (event : Event) → EachEnabled (start pairs words) (event ∷ log)
          → InstallsBut caller but event → ChangeComes (start pairs words) log base x event
          → ((y : ChangeRow) → (state_of pairs words log).pieces base ≡ Some (Change y)
          → y.owner ≡ caller → (state_of pairs words earlier).pieces base ≡ Some (Change y))
          → (state_of pairs words earlier).pieces base ≡ Some (Change x)
      at event all none (change_was old) before = before x old own
      at _ all none (is_installed can is) before = grind arith
      at _ all none (is_decided can is) before = let mine = ap (λ y. y.owner) (sym is) ∙ own in
          let old = before can.change can.pending.published mine in absurd
          (undecided_unresolved pairs words opens earlier
          (enabled_before (start pairs words) earlier log (goes_on later) all.0) base can.change old
          can.pending.unset (resolved base can.change old mine))

-- ---- of a caller that went on

module _ (P : Event → Type 0) (v w : View) (g : WentOn P v w) (number but : ℕ)
    (mine : v.who ≡ Caller number) (only : (event : Event) → P event → InstallsBut number but event)
    (resolved : IsResolved v number) where
  -- each change of the caller but that one was what it is
  pub own_was : (base : ℕ) (x : ChangeRow) → (now w).pieces base ≡ Some (Change x) → x.owner ≡ number
      → base ≢ but → (now v).pieces base ≡ Some (Change x)
  own_was base x e own ne = own_stays v.start v.words (went_lawful P v w g).opens
      (λ event. (whose event ≢ Caller number) ⊎ P event) v.log number but
      (either_but number but P only) w.log
      (subst (λ who. LaterBy who P v.log w.log) mine g.later) (went_lawful P v w g).enabled resolved
      base x (subst (λ t. t.pieces base ≡ Some (Change x)) (went_now P v w g) e) own ne

  -- each start that was decided yes since a state is done, if all were, except that change
  pub starts_but : (first : Snapshot) → StartsDoneSince first (now v) number → (base : ℕ)
      (x : ChangeRow)
      → (now w).pieces base ≡ Some (Change x) → x.owner ≡ number → x.kind ≡ start_kind
      → x.decision ≡ decided_yes → (rebuild : ℕ) → ref_of x.to ≡ Some (RebuildAt rebuild)
      → (base ≡ but) ⊎ ((first.pieces base ≡ Some (Change x)) ⊎ IsDoneStart (now w) x rebuild)
  starts_but first done base x e own kind said rebuild to = ⊎_elim (λ same. inl same.1)
      (λ ne. let old = own_was base x e own ne.1 in
      inr (⊎_elim (λ was. inl was)
      (λ d. inr (subst (λ t. IsDoneStart t x rebuild) (sym (went_now P v w g))
      (done_stays v.start v.words (went_lawful P v w g).opens v.log w.log (goes_on g.later)
      (went_lawful P v w g).enabled base x rebuild old d)))
      (done base x old own kind said rebuild to)))
      (eqb_tells base but)

-- if a caller has only reserved, no change on the node was decided no since
pub unrefused_reserving : (v w : View) → WentOn IsReservation v w → (number node : ℕ)
    → v.who ≡ Caller number → IsResolved v number → IsUnrefused (now v) number node
    → IsUnrefused (now w) number node
unrefused_reserving v w g number node mine resolved none base x e own on = none base x
    (own_was IsReservation v w g number (base + 1) mine (reserves_but number (base + 1)) resolved base x
    e own (λ same. let more : base ≡ base + 1 = same in omega arith)) own on

-- if a caller has only reserved, the starts that were decided yes since a state are done, if all were
pub starts_reserving : (v w : View) → WentOn IsReservation v w → (number : ℕ) → v.who ≡ Caller number
    → IsResolved v number → (first : Snapshot) → StartsDoneSince first (now v) number
    → StartsDoneSince first (now w) number
starts_reserving v w g number mine resolved first done base x e own kind said rebuild to =
    ⊎_elim (λ same. let more : base ≡ base + 1 = same in absurd (omega arith)) (λ d. d)
    (starts_but IsReservation v w g number (base + 1) mine (reserves_but number (base + 1)) resolved
    first done base x e own kind said rebuild to)

-- if a caller has only reserved, none was started
pub starts_none_reserving : (v w : View) → WentOn IsReservation v w → (number : ℕ)
    → v.who ≡ Caller number → IsResolved v number → StartsNone (now v) (now w) number
starts_none_reserving v w g number mine resolved base x e own kind said =
    own_was IsReservation v w g number (base + 1) mine (reserves_but number (base + 1)) resolved base x e
    own (λ same. let more : base ≡ base + 1 = same in omega arith)

-- ---- the results of a start that was put in. Serves `start`.

module _ (number parent index target rebuild change : ℕ) (apart : rebuild ≢ change) where
  abbrev row : ChangeRow
  row = start_change number parent index target rebuild

  abbrev fresh_row : RebuildRow
  fresh_row = record { target = target; parent = parent; index = index; root = 7; draw = 0 }

  -- the rows that the Install publishes are there after it
  change_stands : (t : Snapshot) → (after t (Install number change
      (rows_of (start_filling number parent index target rebuild) change))).pieces change
      ≡ Some (Change row)
  change_stands t = grind (arith, changed_at-fixed, with_installed, installed_stands)

  rebuild_stands : (t : Snapshot) → (after t (Install number change
      (rows_of (start_filling number parent index target rebuild) change))).pieces rebuild
      ≡ Some (Rebuild fresh_row)
  rebuild_stands t = grind (arith, changed_at-fixed, with_installed, with_row-other, with_row-same)

  module _ (v : View) (said : Bool) (w : View)
      (h : HasPutIn v change (start_filling number parent index target rebuild) said w) where
    grow : AllGrow (now h.between).pieces (now w).pieces
    grow = went_grow (Serves change) h.between w h.helped

    -- the change is still published
    pub put_change : (x : ChangeRow) × ((now w).pieces change ≡ Some (Change x)) × ChangeGrows row x
    put_change = let i = h.installed in let u = i.before in
        change_there (now h.between).pieces (now w).pieces grow change row
        (ap (λ (x : View). (now x).pieces change) i.logged.view
        ∙ change_stands (state_of u.start u.words i.logged.before))

    -- the rebuild is published
    pub put_rebuild : (x : RebuildRow) × ((now w).pieces rebuild ≡ Some (Rebuild x))
        × RebuildGrows fresh_row x
    put_rebuild = let i = h.installed in let u = i.before in
        rebuild_there (now h.between).pieces (now w).pieces grow rebuild fresh_row
        (ap (λ (x : View). (now x).pieces rebuild) i.logged.view
        ∙ rebuild_stands (state_of u.start u.words i.logged.before))

  -- decided yes, it is started
  pub put_started : IsGoodBase rebuild → (v w : View)
      → HasPutIn v change (start_filling number parent index target rebuild) true w
      → IsStartedAt (now w) rebuild parent index target
  put_started good v w h = let x = put_change v true w h in let r = put_rebuild v true w h in
      let same = same_change _ h.decided.row x.0 h.decided.published x.1 in record {
        row = r.0;
        published = r.1;
        target_is = r.2.target;
        parent_is = r.2.parent;
        index_is = r.2.index;
        started = record {
          base = change;
          change = x.0;
          published = x.1;
          kind = ap (λ (c : ChangeRow). c.kind) x.2.others;
          decision = ap (λ (c : ChangeRow). c.decision) (sym same) ∙ h.decided.decision;
          to = ap (λ (c : ChangeRow). ref_of c.to) x.2.others
              ∙ ref_of-word_of (RebuildAt rebuild) good;
        };
      }

  -- decided no, its parent isn't open
  pub put_closed : (v w : View) → IsSound w
      → HasPutIn v change (start_filling number parent index target rebuild) false w
      → ¬ (IsOpen (now w) parent)
  put_closed v w s h = let x = put_change v false w h in
      let same = same_change _ h.decided.row x.0 h.decided.published x.1 in
      subst (λ n. ¬ (IsOpen (now w) n)) (ap (λ (c : ChangeRow). c.node) x.2.others)
      (refused_closed w.start w.words s.lawful.opens w.log s.lawful.enabled change x.0 x.1
      (ap (λ (c : ChangeRow). c.decision) (sym same) ∙ h.decided.decision))

  -- a change that is there then has this decision, and starts that rebuild
  pub put_said : (v : View) (said : Bool) (w : View)
      → (h : HasPutIn v change (start_filling number parent index target rebuild) said w)
      → (y : ChangeRow) → (now w).pieces change ≡ Some (Change y)
      → y.decision ≡ h.decided.row.decision
  put_said v said w h y e = grind (arith, same_change)

  -- the change starts that rebuild and no other
  pub put_to : (v : View) (said : Bool) (w : View)
      → HasPutIn v change (start_filling number parent index target rebuild) said w
      → IsGoodBase rebuild → (y : ChangeRow) → (now w).pieces change ≡ Some (Change y) → (other : ℕ)
      → ref_of y.to ≡ Some (RebuildAt other) → other ≡ rebuild
  put_to v said w h good y e other to = let x = put_change v said w h in
      let same = same_change _ x.0 y x.1 e in
      one_ref _ (sym (ap (λ (c : ChangeRow). ref_of c.to) (sym same)
      ∙ ap (λ (c : ChangeRow). ref_of c.to) x.2.others)) to
      (ref_of-word_of (RebuildAt rebuild) good)
    where
      one_ref : (o : Option Ref) → ref_of (word_of (RebuildAt rebuild)) ≡ o
          → o ≡ Some (RebuildAt other)
          → ref_of (word_of (RebuildAt rebuild)) ≡ Some (RebuildAt rebuild) → other ≡ rebuild
      one_ref o f g k = cc (sym g ∙ sym f ∙ k)

-- if the slot held another word, it holds that word
pub other_stood : (f : Filling) (number parent index target rebuild change : ℕ) (v : View)
    (word : ℕ) (w : View) → f ≡ start_filling number parent index target rebuild
    → IsOther v change f word w → StoodInstead w parent index target word
other_stood f number parent index target rebuild change v word w is o = record {
  holds = subst (λ (x : Filling). SlotHolds (now w) x.change.node x.change.index word) is o.in_slot;
  differs = subst (λ (x : Filling). word ≢ x.change.from) is o.differs;
}
