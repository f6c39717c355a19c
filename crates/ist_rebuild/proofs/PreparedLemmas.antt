-- A filled finish may be installed. Serves `prepare`.
use Rattle.std.proofs.Common.{◌≡◌, ℕ, ◌+◌, ◌<◌, List, [], slice_get, Some, Ok, refl, sym, subst, arith, ◌≢◌}
use Rattle.ist_core.specs.TreeTerms.{IsUnrefused, IsUpdate, IsReplaced}
use Rattle.ist_core.specs.WordTerms.{Change, words_of, change_words, finish_kind, ChangeAt, RebuildAt, ref_of, SlotHolds, IsOpen}
use Rattle.ist_rule.specs.RuleTerms.{now, IsSound, own_at, TokenFace, WentOn, GoesOnTo}
use Rattle.ist_rule.specs.declared.view.View.{View}
use Rattle.ist_rule.proofs.WentOnLemmas.{went_all, goes_on_went}
use Rattle.ist_rows.specs.RowTerms.{InstallsNone, filled_with, HasTakenFew, IsReady, TakesNoWords}
use Rattle.ist_rows.specs.declared.callers.Caller.{Caller}
use Rattle.ist_rows.specs.declared.kinds.Kind.TheVariants.{Change as ChangeKind}
use Rattle.ist_rows.proofs.FillingLemmas.{stored_at}
use Rattle.ist_dcss.specs.Installing.{IsInstallable}
use Rattle.ist_build.specs.Calls.{Builds}
use Rattle.ist_rebuild.specs.declared.sites.PlannedFinish.{PlannedFinish}
use Rattle.ist_rebuild.specs.Finishing.{IsPlan, IsPrepared, filling_at, finish_row}
use Rattle.ist_rebuild.specs.Helping.{HasHelped, IsLeftToParent}
use Rattle.ist_rebuild.specs.Going.{ServesRebuild}
use Rattle.ist_rebuild.specs.Needs.{wanting}
use Rattle.ist_rebuild.proofs.FewLemmas.{few_row, none_helped}
use Rattle.ist_rebuild.proofs.EventLemmas.{HasRow, own_helped, helped_more, took_row, help_helped, helped_loads, builds_install_none}
use Rattle.ist_rebuild.proofs.RefusalLemmas.{unrefused_went}
use Rattle.ist_rebuild.proofs.SiteLemmas.{parent_linked, parent_slot, plan_went}
use Rattle.ist_rebuild.proofs.HelpedFinishLemmas.{read_back}
use Rattle.ist_rows.proofs.GoneLemmas.{still_ready}
use Rattle.ist_core.specs.LogTerms.{Snapshot}
use Rattle.laws_coming.specs.Further.{CameFurther}
use Rattle.laws_coming.proofs.FurtherLemmas.{helped_further, no_less}
use Rattle.ist_rows.proofs.FewStepLemmas.{none_loads, none_more}
use Rattle.ist_dcss.specs.Helping.{IsOut, MayHelp, Serves as HelpsWith}
use Rattle.ist_dcss.proofs.CallingLemmas.{met_change}
use Rattle.ist_rebuild.specs.declared.answers.Helped.TheVariants.{ParentMarked, Replaced}
use Rattle.ist_rebuild.proofs.SlotLemmas.{closed_went, tells_left, tells_replaced}

no_update : IsUpdate finish_kind → ⊥
no_update u = grind arith

-- a caller that stored the words of its plan's finish into its change row
module _ (mid : Caller) (plan : PlannedFinish) (change : ℕ) (row : mid.change ≡ Some change)
    (words : List ℕ) (words_are : words ≡ words_of (Change (finish_row plan mid.number))) where
  abbrev w : View
  w = (filled_with mid change words).token.view

  abbrev new : Caller
  new = filled_with mid change words

  -- has helped
  pub filled_helped : IsReady mid → IsSound w → HasHelped mid new
  filled_helped ready s = own_helped mid w.own ready s

  is : (filling_at w change).change ≡ finish_row plan mid.number
  is = subst (λ ws. (filling_at (filled_with mid change ws).token.view change).change
      ≡ finish_row plan mid.number) (sym words_are)
      (read_back mid.token.view change (finish_row plan mid.number))

  stored : (k : ℕ) → k < 9 → slice_get (words_of (Change (finish_row plan mid.number))) k
      ≡ Some (own_at w.own (change + k))
  stored k less = grind (arith, stored_at)

  -- the finish may be installed
  installable : IsReady new → IsSound w → IsPlan w plan → IsUnrefused (now w) mid.number plan.parent
      → IsInstallable w change record { change = finish_row plan mid.number; fresh = [] }
  installable ready s p unrefused = let slot = parent_slot w s plan p in record {
    number = mid.number;
    mine = ready.caller.mine;
    held = (ready.caller.rows ChangeKind change row, tt);
    stored = (stored, tt);
    owned = refl;
    unset = refl;
    word = slot.word;
    slot = slot.holds;
    linked = parent_linked w s plan p;
    unrefused = unrefused;
    fits = p.fits mid.number;
    allowed = record {
      pending = ready.quiet.pending;
      in_call = ready.quiet.in_call;
      resolved = ready.quiet.resolved;
      command = λ u. absurd (no_update u);
      none_yet = λ u. absurd (no_update u);
    };
  }

  -- a caller that filled its change row may install the finish
  pub filled_prepared : IsReady new → IsSound w → IsPlan w plan
      → IsUnrefused (now w) mid.number plan.parent → IsPrepared new plan change
  filled_prepared ready s p unrefused = grind (arith, is, installable)

-- ---- from the reserving on

-- the caller has helped, its change row is prepared, and it took few words for it
pub record HasPreparedFinish (old who : Caller) (plan : PlannedFinish) (change : ℕ) : Type 0 where
  pub helped : HasHelped old who
  pub prepared : IsPrepared who plan change
  pub few : HasTakenFew (wanting old.change change_words) 0 old who

-- a caller that reserved and filled its change row has helped and prepared it
pub has_prepared : (old mid who : Caller) (plan : PlannedFinish) (change : ℕ) (words : List ℕ) → IsReady old
    → IsSound old.token.view → IsPlan old.token.view plan
    → IsUnrefused (now old.token.view) old.number plan.parent → HasRow old mid (Ok change)
    → words ≡ words_of (Change (finish_row plan mid.number))
    → who ≡ filled_with mid change words → IsSound who.token.view → HasPreparedFinish old who plan change
has_prepared old mid who plan change words ready s p unrefused row words_are stored sound =
    let t = took_row old mid change ready s row in let new = filled_with mid change words in
    let w = new.token.view in
    let here = subst (λ (x : Caller). IsSound x.token.view) stored sound in
    let filled = filled_helped mid plan change t.row words words_are
    (still_ready t.helped.on) here in
    let all = helped_more old mid new t.helped filled in
    let none = unrefused_went old.token.view mid.token.view old.number ready.caller.mine
    (went_all Builds InstallsNone builds_install_none old.token.view mid.token.view t.by)
    ready.quiet.resolved plan.parent unrefused in
    subst (λ x. HasPreparedFinish old x plan change) (sym stored) record {
      helped = all;
      prepared = filled_prepared mid plan change t.row words words_are (still_ready filled.on) here
          (plan_went ServesRebuild old.token.view w all.on.gone.went plan p)
          (subst (λ n. IsUnrefused (now mid.token.view) n plan.parent) (sym row.number) none);
      few = few_row old mid old.token.view.words (Ok change) ready.caller refl row.held row.fresh tt;
    }

-- ---- a turn of settling a rebuild: a load of its slot, and help for the change that is there. Serves `settle`.

-- what was left to its parent isn't called replaced
pub not_replaced : (t : Snapshot) (rebuild : ℕ) → ParentMarked ≡ Replaced → IsReplaced t rebuild
not_replaced t rebuild e = absurd (cc e)

-- nor the other way round
pub not_left : (t : Snapshot) (rebuild : ℕ) → Replaced ≡ ParentMarked → IsLeftToParent t rebuild
not_left t rebuild e = absurd (cc e)

-- a caller that has helped a rebuild, and then loads a word in its slot
module _ (old who : Caller) (plan : PlannedFinish) (word : ℕ) (token : TokenFace)
    (s : IsSound old.token.view) (p : IsPlan old.token.view plan)
    (shut : ¬ (IsOpen (now old.token.view) plan.parent)) (h : HasHelped old who)
    (n : TakesNoWords old who) (g : GoesOnTo who.token.view token.view)
    (holds : SlotHolds (now token.view) plan.parent plan.index word) where
  abbrev mid : Caller
  mid = record who { token = token }

  -- has helped
  pub met_helped : HasHelped old mid
  met_helped = helped_loads old who token h g

  -- and took no word
  pub met_none : TakesNoWords old mid
  met_none = none_more old who mid n (none_loads who token h.on.gone.caller.mine g)

  went : WentOn ServesRebuild old.token.view token.view
  went = met_helped.on.gone.went

  plan_here : IsPlan token.view plan
  plan_here = plan_went ServesRebuild old.token.view token.view went plan p

  -- the rebuild's own word: it is left to its parent
  pub met_left : ref_of word ≡ Some (RebuildAt plan.rebuild) → IsLeftToParent (now token.view) plan.rebuild
  met_left is = tells_left token.view went.sound plan plan_here word holds is
      (closed_went ServesRebuild old.token.view token.view went s plan p shut)

  -- another word, which is no change's: it was replaced
  pub met_replaced : ((change : ℕ) → ref_of word ≢ Some (ChangeAt change))
      → ref_of word ≢ Some (RebuildAt plan.rebuild) → IsReplaced (now token.view) plan.rebuild
  met_replaced none other = tells_replaced token.view went.sound plan plan_here word holds none other

  module _ (change : ℕ) (is : ref_of word ≡ Some (ChangeAt change)) where
    -- a change's word: it may be helped
    pub met_may_help : MayHelp token.view change
    met_may_help =
        met_change token.view g.sound mid.number met_helped.on.gone.caller.mine plan.parent plan.index
        word change holds is

    module _ (last : TokenFace) (help : WentOn (HelpsWith change) token.view last.view) where
      -- that is help
      pub met_helps : HasHelped old (record who { token = last })
      met_helps = helped_more old mid (record who { token = last }) met_helped
          (help_helped mid last change (still_ready met_helped.on) help)

      -- and takes no word
      pub met_takes : TakesNoWords old (record who { token = last })
      met_takes = none_more old mid (record who { token = last }) met_none
          (none_helped mid last change met_helped.on.gone.caller.mine help)

      -- and then the caller came further
      pub met_further : IsOut last.view change → CameFurther who.token.view last.view
      met_further out = no_less ServesRebuild who.token.view token.view last.view
          (goes_on_went ServesRebuild who.token.view token.view g)
          (helped_further (HelpsWith change) token.view last.view g.sound help plan.parent plan.index
          word change holds is out.resolved)
