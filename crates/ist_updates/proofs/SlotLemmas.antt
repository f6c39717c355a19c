-- A slot that is changed: what its change asks for, and what came of it, step by step. Serves
-- `change_slot`.
use Rattle.std.proofs.Common.{◌≡◌, ◌≢◌, ◌⊎◌, ℕ, Some, sym, ap, ◌∙◌, subst, inl, inr, arith}
use Rattle.ist_core.specs.declared.events.Event.TheVariants.{Install}
use Rattle.ist_core.specs.declared.states.ChangeRow.{ChangeRow}
use Rattle.ist_core.specs.declared.events.Who.TheVariants.{Caller as CallerOf}
use Rattle.ist_core.specs.TreeTerms.{reply_of, value_at, IsUnrefused, Linked, WasLinked}
use Rattle.ist_core.specs.LogTerms.{EachEnabled, Lawful, state_of, HoldsRow, HoldsRows, whose}
use Rattle.ist_core.proofs.AllLogLemmas.{enabled_before, change_there, slot_remains, ever_later}
use Rattle.ist_core.specs.WordTerms.{Change, ref_of, start, undecided, SlotHolds}
use Rattle.laws_links.proofs.ChangeLemmas.{undecided_unresolved}
use Rattle.ist_rule.specs.RuleTerms.{IsResolved, StoredAll, TokenFace, WentOn, now, GoesOnTo, IsSound}
use Rattle.ist_rule.specs.declared.view.View.{View}
use Rattle.ist_core.proofs.AllWordLemmas.{same_change}
use Rattle.ist_core.proofs.AllEventLemmas.{pair_size}
use Rattle.ist_rule.proofs.WentOnLemmas.{goes_on_grow, later_by-goes_on, went_grow, went_lawful, went_now}
use Rattle.ist_rows.specs.RowTerms.{HasRefused, IsCaller, HasGone, with_own}
use Rattle.ist_rows.specs.declared.callers.Caller.{Caller}
use Rattle.ist_rows.specs.declared.kinds.Kind.TheVariants as kind
use Rattle.ist_dcss.specs.Installing.{IsInstallable, rows_of}
use Rattle.laws_calls.proofs.AcceptedLemmas.{event_by}
use Rattle.laws_calls.specs.Owning.{HasChange, WasInstalled}
use Rattle.laws_calls.proofs.OwnLemmas.{change_since}
use Rattle.ist_updates.specs.declared.plans.Aim.{Aim}
use Rattle.ist_updates.specs.declared.plans.Fresh.{Fresh}
use Rattle.ist_updates.specs.declared.plans.Fresh.TheVariants.{Nothing, Leaf, Pair}
use Rattle.ist_updates.specs.declared.plans.PlannedChange.{PlannedChange}
use Rattle.ist_updates.specs.declared.plans.SlotPlan.{SlotPlan}
use Rattle.ist_updates.specs.Asking.{IsAsked}
use Rattle.ist_updates.specs.Changing.{WasAtSlot, Prepares, HasRows, IsPlanFor, IsPlanned, MayReplace, command_by, filling_of, fresh_rows}
use Rattle.ist_updates.specs.Trying.{HasTakenEffect}
use Rattle.ist_updates.proofs.StepLemmas.{asked_gone, prepares_none, taken_since}
use Rattle.ist_updates.proofs.StandingLemmas.{planned_reply, reply_stays, way_stands}
use Rattle.ist_rows.proofs.GoneLemmas.{own_went, gone_more, loads_gone}
use Rattle.ist_updates.proofs.PlanLemmas.{slot_met, slot_holds, fits_went}

-- a caller that filled its rows has gone on so
pub filled_gone : (old new : Caller) → HasRefused old → IsCaller new → IsSound new.token.view
    → new ≡ with_own old new.token.view.own → HasGone Prepares old new
filled_gone old new refused c s same = grind (arith, own_went)

-- ---- what an Install asks

-- if a caller only prepared, still none of its changes on a node was decided no
pub unrefused_on : (v w : View) (number node : ℕ) → v.who ≡ CallerOf number → IsResolved v number
    → WentOn Prepares v w → IsUnrefused (now v) number node → IsUnrefused (now w) number node
unrefused_on v w number node mine resolved g h base change there own at refused =
    by_origin (change_since v.start v.words v.log w.log (later_by-goes_on g.later) lawful.enabled base
    change here)
  where
    lawful : Lawful v.start v.words w.log
    lawful = went_lawful Prepares v w g

    before : EachEnabled (start v.start v.words) v.log
    before = grind (arith, enabled_before, later_by-goes_on)

    here : (state_of v.start v.words w.log).pieces base ≡ Some (Change change)
    here = subst (λ t. t.pieces base ≡ Some (Change change)) (went_now Prepares v w g) there

    by_origin : HasChange (now v) base ⊎ WasInstalled v.log w.log change.owner base → ⊥
    by_origin (inl old) =
        let on = change_there (now v).pieces (now w).pieces (went_grow Prepares v w g) base old.0 old.1
        in
        let same = same_change ((now w).pieces base) on.0 change on.1 there in
        let owner = ap (λ c. c.owner) (sym on.2.others) ∙ ap (λ c. c.owner) same ∙ own in
        let decided : old.0.decision ≢ undecided =
        grind (arith, undecided_unresolved, before) in
        h base old.0 old.1 owner (ap (λ c. c.node) (sym on.2.others) ∙ ap (λ c. c.node) same ∙ at)
        (sym (on.2.decided decided) ∙ ap (λ c. c.decision) same ∙ refused)
    by_origin (inr i) = grind (arith, event_by)

-- a caller that has the rows of a plan holds them
rows_held : (who : Caller) → IsCaller who → (base : ℕ) (row : ChangeRow) (fresh : Fresh)
    → HasRows who record { base = base; row = row; fresh = fresh }
    → HoldsRows (now who.token.view) who.number
    (rows_of record { change = row; fresh = fresh_rows row fresh } base)
rows_held who c base row Nothing h = (c.rows kind.Change base h.0, tt)
rows_held who c base row (Leaf leaf) h = (
  c.rows kind.Change base h.0,
  (c.rows kind.Leaf leaf h.1.0, tt),
)
rows_held who c base row (Pair pair leaf other other_key) h = (
  c.rows kind.Change base h.0,
  (
    subst (HoldsRow (now who.token.view) who.number pair)
        (sym (pair_size row.key leaf other_key other)) (c.rows kind.Pair pair h.1.0),
    (c.rows kind.Leaf leaf h.1.1.0, tt),
  ),
)

module _ (old mid new : Caller) (aim : Aim) (x : SlotPlan) (plan : PlannedChange)
    (a : IsAsked old (command_by aim.key x)) (at : WasAtSlot old.token.view aim)
    (h : HasGone Prepares old mid) (planned : IsPlanned mid aim x plan)
    (f : HasGone Prepares mid new) (same : new ≡ with_own mid new.token.view.own)
    (all : HasGone Prepares old new) where
  abbrev v : View
  v = old.token.view

  abbrev w : View
  w = new.token.view

  -- the caller is asked still
  pub prepared_asked : IsAsked new (command_by aim.key x)
  prepared_asked = asked_gone Prepares old new (command_by aim.key x) a all prepares_none

  -- it has the rows still
  pub prepared_rows : HasRows new plan
  prepared_rows = subst (λ (y : Caller). HasRows y plan) (sym same) planned.rows

  linked : WasLinked (start w.start w.words) w.log plan.row.node
  linked = subst (λ (y : View). WasLinked (start y.start y.words) w.log plan.row.node)
      (sym all.went.same)
      (subst (WasLinked (start v.start v.words) w.log) (sym planned.is_for.node)
      (ever_later (start v.start v.words) (λ t. Linked t aim.node)
      (later_by-goes_on all.went.later) (slot_met v aim at).linked))

  slot : (word : ℕ) × SlotHolds (now w) plan.row.node plan.row.index word
  slot = let s = slot_holds v aim at in
      let it = slot_remains (now v) (now w) (went_grow Prepares v w all.went) aim.node aim.index s.word
      s.holds in (
        it.0,
        subst (λ n. SlotHolds (now w) n plan.row.index it.0) (sym planned.is_for.node)
            (subst (λ i. SlotHolds (now w) aim.node i it.0) (sym planned.is_for.index) it.1),
      )

  -- the change may be installed
  pub prepared_installable : IsUnrefused (now v) old.number aim.node
      → StoredAll w (rows_of (filling_of plan) plan.base)
      → IsInstallable w plan.base (filling_of plan)
  prepared_installable unrefused stored = let asked = prepared_asked in record {
    number = new.number;
    mine = all.caller.mine;
    held = rows_held new all.caller plan.base plan.row plan.fresh prepared_rows;
    stored = stored;
    owned = planned.is_for.owner ∙ sym f.number;
    unset = planned.is_for.unset;
    word = slot.0;
    slot = slot.1;
    linked = linked;
    unrefused = subst (IsUnrefused (now w) new.number) (sym planned.is_for.node)
        (subst (λ n. IsUnrefused (now w) n aim.node) (sym all.number)
        (unrefused_on v w old.number aim.node a.caller.mine a.resolved all.went unrefused));
    fits = grind (arith, fits_went);
    allowed = grind arith;
  }

-- ---- both together

-- the caller has prepared the plan: it may be installed
pub record HasPreparedPlan (old new : Caller) (aim : Aim) (x : SlotPlan) (plan : PlannedChange) : Type 0 where
  pub gone : HasGone Prepares old new
  pub asked : IsAsked new (command_by aim.key x)
  pub rows : HasRows new plan
  pub installable : IsInstallable new.token.view plan.base (filling_of plan)
  pub is_for : IsPlanFor new.number aim x plan

-- a planned change whose rows are stored is prepared
pub prepared : (old mid new : Caller) (aim : Aim) (x : SlotPlan) (plan : PlannedChange)
    → IsAsked old (command_by aim.key x) → WasAtSlot old.token.view aim
    → IsUnrefused (now old.token.view) old.number aim.node → HasGone Prepares old mid
    → IsPlanned mid aim x plan → IsCaller new → IsSound new.token.view
    → new ≡ with_own mid new.token.view.own
    → StoredAll new.token.view (rows_of (filling_of plan) plan.base)
    → HasPreparedPlan old new aim x plan
prepared old mid new aim x plan a at unrefused h planned c s same stored =
    let f = filled_gone mid new h.refused c s same in
    let all = gone_more Prepares old mid new h f in record {
      gone = all;
      asked = prepared_asked old mid new aim x plan a at h planned f same all;
      rows = grind arith;
      installable = prepared_installable old mid new aim x plan a at h planned f same all unrefused
          stored;
      is_for = grind arith;
    }

-- if it took effect since the rows were prepared, it took effect since the first view
pub prepared_taken : (old new : Caller) (aim : Aim) (x : SlotPlan) (plan : PlannedChange)
    → IsAsked old (command_by aim.key x) → HasPreparedPlan old new aim x plan
    → MayReplace old.token.view aim.key aim.word x → (w : View)
    → HasTakenEffect new.token.view w new.number (command_by aim.key x) plan.row.node
    (reply_of (now new.token.view).pieces plan.row)
    → HasTakenEffect old.token.view w old.number (command_by aim.key x) aim.node
    (value_at (now old.token.view).pieces (ref_of aim.word) aim.key)
prepared_taken old new aim x plan a p room w t =
    let told = reply_of (now new.token.view).pieces plan.row in
    taken_since old new (command_by aim.key x) a p.asked p.gone w aim.node told
    (value_at (now old.token.view).pieces (ref_of aim.word) aim.key)
    (planned_reply old.token.view new.token.view
    (went_grow Prepares old.token.view new.token.view p.gone.went) aim.key aim.word x room plan.row
    p.is_for.from p.is_for.key)
    (subst (λ n. HasTakenEffect new.token.view w new.number (command_by aim.key x) n told)
    p.is_for.node t)

-- if it took effect since a load, it took effect since the view before the load
pub loads_taken : (old : Caller) (token : TokenFace) (key word : ℕ) (x : SlotPlan)
    → GoesOnTo old.token.view token.view → IsAsked old (command_by key x)
    → MayReplace old.token.view key word x → (w : View) (node : ℕ)
    → HasTakenEffect token.view w old.number (command_by key x) node
    (value_at (now token.view).pieces (ref_of word) key)
    → HasTakenEffect old.token.view w old.number (command_by key x) node
    (value_at (now old.token.view).pieces (ref_of word) key)
loads_taken old token key word x g a room w node t = let v = old.token.view in
    let mid : Caller = record old { token = token } in
    let gone = loads_gone Prepares old token a.caller a.refused g in
    taken_since old mid (command_by key x) a (asked_gone Prepares old mid _ a gone prepares_none) gone
    w node _ _ (reply_stays (now v) (now token.view) (goes_on_grow v token.view g) key word
    (way_stands v key word x room)) t
