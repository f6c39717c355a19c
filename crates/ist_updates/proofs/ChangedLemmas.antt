-- What a change of a slot promises, by what came of its parts. Serves `change_slot` and `change_open`.
use Rattle.std.proofs.Common.{ℕ, false, ◌≡◌, Option, Some, sym, ap, subst, ◌∷◌, refl, ◌∙◌, arith}
use Rattle.std.specs.Prelude.{Bool, Ok, Err, Result}
use Rattle.ist_core.specs.declared.ports.Full.{Full}
use Rattle.ist_core.specs.declared.events.Event.{Event}
use Rattle.ist_core.specs.declared.events.Event.TheVariants.{Install}
use Rattle.ist_core.specs.declared.events.Who.TheVariants.{Caller as CallerOf}
use Rattle.ist_core.specs.WordTerms.{IsOpen, RebuildAt, ref_of, SlotHolds, past_change}
use Rattle.ist_rule.specs.RuleTerms.{TokenFace, now, GoesOnTo, IsSound}
use Rattle.ist_rule.specs.declared.view.View.{View}
use Rattle.ist_rule.proofs.WentOnLemmas.{goes_on_grow, later_by-goes_on, looked_went, went_grow, went_lawful, went_more}
use Rattle.ist_rows.specs.RowTerms.{HasGone, HasRefused, without_rows, IsWithout, IsCaller, spares_of}
use Rattle.ist_rows.specs.declared.callers.Caller.{Caller}
use Rattle.ist_rows.proofs.GoneLemmas.{loads_gone, gone_all, gone_more}
use Rattle.ist_updates.specs.declared.plans.Aim.{Aim}
use Rattle.ist_updates.specs.declared.plans.PlannedChange.{PlannedChange}
use Rattle.ist_updates.specs.declared.plans.SlotPlan.{SlotPlan}
use Rattle.ist_updates.specs.Answering.{HasCarried, HasChanged, IsTryRefused}
use Rattle.ist_updates.specs.Asking.{IsAsked, command_for, Updates}
use Rattle.ist_updates.specs.Changing.{Prepares, MayAskFor, MayReplace, IsRowShort, command_by, HasRows, filling_of, kinds_of}
use Rattle.ist_updates.specs.Trying.{Tries, BeganSince, IsAtSlot}
use Rattle.ist_updates.proofs.StepLemmas.{asked_gone, asked_quiet, prepares_none, prepares_tries, tries_updates, serves_tries}
use Rattle.ist_updates.proofs.AfterLemmas.{after_loads, after_went}
use Rattle.ist_updates.proofs.FurtherLemmas.{aimed_on, planned_aim, shut_further}
use Rattle.ist_updates.proofs.PlanLemmas.{err_refused, short_wider}
use Rattle.ist_updates.proofs.SlotLemmas.{HasPreparedPlan, loads_taken, prepared_taken}
use Rattle.ist_updates.proofs.StandingLemmas.{way_on}
use Rattle.ist_core.specs.TreeTerms.{IsStarted, IsReplaced}
use Rattle.ist_core.proofs.AllPlaceLemmas.{SlotNames, IsRebuildFor, slot_names, names}
use Rattle.laws_calls.proofs.ReadLemmas.{read_started}
use Rattle.laws_links.proofs.FormLemmas.{started_grows, replaced_grows}
use Rattle.ist_rebuild.specs.Going.{ServesRebuild}
use Rattle.ist_rebuild.specs.Helping.{IsHelpRefused}
use Rattle.ist_updates.specs.Refusals.{IsOnWay, IsUpdateRefused, for_rebuild}
use Rattle.ist_updates.proofs.WayLemmas.{slot_on_way, way_longer}
use Rattle.ist_core.specs.LogTerms.{bases_of}
use Rattle.ist_rows.proofs.CallerLawLemmas.{HasLogged, logged_made, caller_made, refused_made}
use Rattle.ist_dcss.specs.Installing.{Filling, rows_of, IsInstalled}
use Rattle.laws_links.proofs.RebuiltLemmas as rebuilt
use Rattle.ist_rows.specs.declared.kinds.Kind.TheVariants as kind

-- ---- results

-- ---- what came of it

module _ (old : Caller) (aim : Aim) (x : SlotPlan) (a : IsAsked old (command_by aim.key x)) where
  -- a caller that only reserved rows, or gave them up, is asked still
  pub still_asked : (new : Caller) → HasGone Prepares old new → IsAsked new (command_by aim.key x)
  still_asked new gone = asked_gone Prepares old new (command_by aim.key x) a gone prepares_none

  -- a change for which the table had too few words
  pub refused_changed : (words : ℕ) (new : Caller) (full : Full) → HasGone Prepares old new
      → IsRowShort (MayAskFor x) old.token.view words full new.token.view
      → HasChanged old aim x words (Err full) new
  refused_changed words new full gone refused = let still = still_asked new gone in record {
    on = grind (arith, gone_all, prepares_tries, asked_quiet);
    took = λ is. absurd (cc);
    lost = λ is. absurd (cc);
    further = λ is. absurd (cc);
    still = still;
    full = refused;
  }

  -- a prepared change that was carried out
  pub carried_changed : (words : ℕ) (mid new : Caller) (plan : PlannedChange) (taken : Bool)
      → HasPreparedPlan old mid aim x plan → MayReplace old.token.view aim.key aim.word x
      → HasCarried mid plan taken new → HasChanged old aim x words (Ok taken) new
  carried_changed words mid new plan taken p room h = record {
    on = record {
      gone = gone_more Tries old mid new (gone_all Prepares Tries prepares_tries old mid p.gone)
          h.on.gone;
      quiet = h.on.quiet;
    };
    took = λ is. prepared_taken old mid aim x plan a p room new.token.view
        (h.took (cc) (command_by aim.key x) p.is_for.command);
    lost = λ is. h.lost (cc) (command_by aim.key x) p.asked;
    further = λ is first aimed. h.further (cc) first
        (planned_aim first old.token.view mid.token.view aim plan.row aimed
        (after_went Prepares old.token.view mid.token.view p.gone.went) p.is_for.node
        p.is_for.index p.is_for.from);
    still = tt;
    full = tt;
  }

  -- after loads
  module _ (token : TokenFace) (g : GoesOnTo old.token.view token.view) where
    abbrev mid : Caller
    mid = record old { token = token }

    loaded : HasGone Prepares old mid
    loaded = loads_gone Prepares old token a.caller a.refused g

    -- the caller is asked still
    pub loads_still : IsAsked mid (command_by aim.key x)
    loads_still = still_asked mid loaded

    -- and the slot holds what the change may replace
    pub loads_room : MayReplace old.token.view aim.key aim.word x → MayReplace token.view aim.key aim.word x
    loads_room =
        way_on old.token.view token.view (goes_on_grow old.token.view token.view g) aim.key aim.word x

    -- a change is lost if the node isn't open
    pub shut_changed : (words : ℕ) → ¬ (IsOpen (now token.view) aim.node)
        → HasChanged old aim x words (Ok false) mid
    shut_changed words shut = record {
      on = record {
        gone = gone_all Prepares Tries prepares_tries old mid loaded;
        quiet = asked_quiet mid (command_by aim.key x) loads_still;
      };
      took = λ is. absurd (cc);
      lost = λ is. loads_still;
      further = λ is first aimed. shut_further first old.token.view token.view aim.node aim.index
          aim.word aimed (after_loads old.token.view token.view g) g.sound shut;
      still = tt;
      full = tt;
    }

    -- a change after them is the change with them
    pub loads_changed : (words : ℕ) (r : Result Bool Full) (new : Caller)
        → MayReplace old.token.view aim.key aim.word x → HasChanged mid aim x words r new
        → HasChanged old aim x words r new
    loads_changed words r new room h = record {
      on = record {
        gone = gone_more Tries old mid new (gone_all Prepares Tries prepares_tries old mid loaded)
            h.on.gone;
        quiet = h.on.quiet;
      };
      took = grind (arith, loads_taken);
      lost = h.lost;
      further = λ is first aimed. h.further is first
          (aimed_on first old.token.view token.view aim.node aim.index aim.word aimed
          (after_loads old.token.view token.view g));
      still = h.still;
      full = err_refused old.token.view token.view x words new.token.view r loaded.went h.full;
    }

-- ---- a change or a rebuild in the slot, and its help. Serves `help_change` and `help_target`.

-- ---- rebuilds

module _ (v : View) (s : IsSound v) (key node index word rebuild : ℕ)
    (at : IsAtSlot v key node index word) (is : ref_of word ≡ Some (RebuildAt rebuild)) where
  -- a rebuild in a slot was started
  pub slot_started : IsStarted (now v) rebuild
  slot_started =
      read_started v.start v.words s.lawful.opens v.log s.lawful.enabled node index rebuild record {
        word = word;
        holds = at.holds;
        reads = ap (past_change (now v).pieces) is;
      }

  named : IsRebuildFor (now v).pieces node index rebuild
  named = subst (SlotNames (now v).pieces node index) is
      (slot_names (now v) node index word
      (names v.start v.words s.lawful.opens v.log s.lawful.enabled) at.holds)

  -- and wasn't replaced
  pub slot_unreplaced : ¬ (IsReplaced (now v) rebuild)
  slot_unreplaced replaced = let n = named in
      rebuilt.read_unreplaced v.start v.words s.lawful.opens v.log s.lawful.enabled rebuild n.row
      n.published record {
        word = word;
        holds = subst (λ m. SlotHolds (now v) m n.row.index word) (sym n.parent)
            (subst (λ i. SlotHolds (now v) node i word) (sym n.index) at.holds);
        reads = ap (past_change (now v).pieces) is;
      } replaced

  -- an update is refused if its help of a rebuild finds too few words
  pub help_refused : (value : Option ℕ) (words : ℕ) (full : Full) (w : View)
      → IsHelpRefused v rebuild words full w → (first : View) → BeganSince first v
      → IsUpdateRefused first key value words full w
  help_refused value words full w r first began =
      let went = went_more ServesRebuild v r.before w r.seen
      (looked_went ServesRebuild r.before _ _ w r.looked) in
      short_wider ServesRebuild Updates (λ e h. tries_updates e (serves_tries e h)) first v words full
      w began.went r
      (for_rebuild rebuild
      (started_grows (now v) (now w) (went_grow ServesRebuild v w went) rebuild slot_started)
      (λ replaced. slot_unreplaced (replaced_grows (now first) (now v)
      (went_grow Updates first v began.went) rebuild replaced))
      (subst (λ (y : View). IsOnWay y.start y.words w.log key rebuild) began.went.same
      (way_longer v.start v.words v.log w.log (went_lawful ServesRebuild v w went)
      (later_by-goes_on went.later) key rebuild
      (slot_on_way v s key node index word rebuild at named))))

-- ---- a refused try

-- who is asked still, and whose update is refused whenever its search began, was refused
pub refused_still : (old new : Caller) (key : ℕ) (value : Option ℕ) (words : ℕ) (full : Full)
    → IsAsked new (command_for key value)
    → ((first : View) → BeganSince first old.token.view
    → IsUpdateRefused first key value words full new.token.view)
    → IsTryRefused old key value words full new
refused_still old new key value words full still cause = record { still = still; cause = cause }

-- ---- a caller that has published the rows of a plan. Serves `install_plan`.

module _ (old new : Caller) (plan : PlannedChange) (c : IsCaller old) (r : HasRefused old)
    (has : HasRows old plan) {filling : Filling} (filled : filling ≡ filling_of plan)
    {token : TokenFace} (made : IsInstalled old.token.view plan.base filling token.view)
    (same : (new.token ≡ token) × (new.number ≡ old.number))
    (rows : spares_of new ≡ without_rows (kind.Change ∷ kinds_of plan.fresh) (spares_of old)) where
  -- the change was installed with what the plan fills in
  i : IsInstalled old.token.view plan.base (filling_of plan) new.token.view
  i = grind arith

  abbrev event : Event
  event = Install i.number plan.base (rows_of (filling_of plan) plan.base)

  -- the caller just before the Install
  abbrev between : Caller
  between = record old { token = record old.token { view = i.before } }

  gone : HasGone (λ e. ⊥) old between
  gone = loads_gone (λ e. ⊥) old (record old.token { view = i.before }) c r i.seen

  logged : HasLogged i.before event i.logged.before new.token.view
  logged = logged_made i.before event new.token.view i.logged

  its : CallerOf i.number ≡ CallerOf old.number
  its = sym i.mine ∙ c.mine

  without : IsWithout (kind.Change ∷ kinds_of plan.fresh) between new
  without = record { number = same.1; rows = rows }

  -- it is a caller without these rows
  pub given_caller : IsCaller new
  given_caller = caller_made between new (kind.Change ∷ kinds_of plan.fresh) event
      (bases_of (rows_of (filling_of plan) plan.base)) gone.caller i.logged.before logged its refl
      has without

  -- whose refused builds are refused still
  pub given_refused : HasRefused new
  given_refused = refused_made between new (kind.Change ∷ kinds_of plan.fresh) event
      (bases_of (rows_of (filling_of plan) plan.base)) gone.caller i.logged.before logged its refl
      has without gone.refused
