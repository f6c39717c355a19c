-- A change that was installed and helped, and what came of it. Serves `carry_out`.
use Rattle.std.proofs.Common.{◌≡◌, ℕ, ◌+◌, ◌≤◌, true, false, length, Some, None, refl, sym, ap, ◌∙◌, subst, arith}
use Rattle.ist_core.specs.declared.commands.Command.{Command}
use Rattle.ist_core.specs.declared.events.Event.{Event}
use Rattle.ist_core.specs.declared.events.Event.TheVariants.{Install}
use Rattle.ist_core.specs.declared.states.ChangeRow.{ChangeRow}
use Rattle.ist_core.specs.TreeTerms.{changes_of, command_of, reply_of, ChangeGrows, IsUpdate, entries_by}
use Rattle.ist_core.specs.LogTerms.{state_of, decision_word, LaterBy}
use Rattle.ist_core.specs.WordTerms.{Change, start, decided_yes}
use Rattle.ist_core.proofs.AllLogLemmas.{change_there}
use Rattle.ist_rule.specs.RuleTerms.{IsResolved, TokenFace, WentOn, now, GoesOnTo, IsSound}
use Rattle.ist_rule.specs.declared.view.View.{View}
use Rattle.ist_core.proofs.AllWordLemmas.{same_change}
use Rattle.ist_rule.proofs.WentOnLemmas.{goes_on_went, logged_went, went_all, went_more, went_grow, went_now, went_lawful, went_who}
use Rattle.ist_rows.specs.RowTerms.{HasRefused, InstallsNone, IsCaller, IsQuiet, HasGone}
use Rattle.ist_rows.specs.declared.callers.Caller.{Caller}
use Rattle.ist_rows.specs.declared.kinds.Kind.TheVariants.{Change as ChangeKind}
use Rattle.ist_rows.proofs.CallerLawLemmas.{resolved_went}
use Rattle.ist_dcss.specs.Helping.{Serves, MayHelp, IsDecided, IsOut}
use Rattle.ist_dcss.specs.Installing.{rows_of, IsInstallable, IsInstalled}
use Rattle.ist_dcss.proofs.ResolvedLemmas.{resolved_helped, serves_keep}
use Rattle.laws_calls.specs.Accepting.{InstallsNoYes}
use Rattle.laws_calls.proofs.AcceptedLemmas.{installed_no_entry, no_longer}
use Rattle.ist_updates.specs.declared.plans.PlannedChange.{PlannedChange}
use Rattle.ist_updates.specs.Asking.{IsAsked}
use Rattle.ist_updates.specs.Changing.{HasRows, filling_of}
use Rattle.ist_updates.specs.Trying.{Tries, HasTakenEffect}
use Rattle.ist_updates.proofs.StepLemmas.{none_no_yes, no_yes_by, asked_still, asked_gone, help_tries, help_installs_none}
use Rattle.ist_rows.proofs.GoneLemmas.{caller_gone}
use Rattle.ist_updates.proofs.StandingLemmas.{no_start, fits_stands, reply_stays, installed_row}
use Rattle.ist_updates.proofs.EntryLemmas.{one_more_entry}
use Rattle.ist_updates.proofs.PairLemmas.{sound_now}

-- ---- a change that wasn't installed

module _ (old new : Caller) (caller : IsCaller new) (number : new.number ≡ old.number)
    (refused : HasRefused new) (g : GoesOnTo old.token.view new.token.view) where
  -- the caller has made loads
  pub missed_gone : (P : Event → Type 0) → HasGone P old new
  missed_gone P = grind (arith, goes_on_went)

  -- and is asked still
  pub missed_asked : (command : Command) → IsAsked old command → IsAsked new command
  missed_asked command a =
      asked_gone (λ e. ⊥) old new command a (missed_gone (λ e. ⊥)) (λ e none. absurd none)

-- it is in its call, and has resolved its changes
pub missed_quiet : (old new : Caller) (plan : PlannedChange) → IsCaller old
    → IsInstallable old.token.view plan.base (filling_of plan) → new.number ≡ old.number
    → GoesOnTo old.token.view new.token.view → IsQuiet new
missed_quiet old new plan c m number g = let v = old.token.view in record {
  pending = m.allowed.pending;
  in_call = ap (λ y. y.pending) g.same ∙ m.allowed.in_call;
  resolved = subst (IsResolved new.token.view) (sym number)
      (resolved_went v new.token.view old.number c.mine
      (subst (IsResolved v) (cc (sym m.mine ∙ c.mine))
      m.allowed.resolved) (goes_on_went InstallsNone v new.token.view g));
}

-- ---- an installed change

-- its row was published as it was filled
pub published_row : (v : View) (plan : PlannedChange) (x : View)
    → IsInstalled v plan.base (filling_of plan) x
    → (now x).pieces plan.base ≡ Some (Change plan.row)
published_row v plan x i = grind (arith, installed_row)

-- its caller may help it
pub carried_help : (old mid : Caller) (plan : PlannedChange) → IsCaller mid
    → IsInstalled old.token.view plan.base (filling_of plan) mid.token.view
    → MayHelp mid.token.view plan.base
carried_help old mid plan c i = grind (arith, published_row)

module _ (old mid : Caller) (token : TokenFace) (plan : PlannedChange) (c : IsCaller old)
    (s : IsSound old.token.view) (rows : HasRows old plan) (update : IsUpdate plan.row.kind)
    (m : IsInstallable old.token.view plan.base (filling_of plan)) (caller : IsCaller mid)
    (refused : HasRefused mid) (number : mid.number ≡ old.number)
    (i : IsInstalled old.token.view plan.base (filling_of plan) mid.token.view)
    (g : WentOn (Serves plan.base) mid.token.view token.view) where
  abbrev v : View
  v = old.token.view

  abbrev x : View
  x = mid.token.view

  abbrev w : View
  w = token.view

  abbrev base : ℕ
  base = plan.base

  abbrev event : Event
  event = Install i.number base (rows_of (filling_of plan) base)

  abbrev new : Caller
  new = record mid { token = token }

  number_is : m.number ≡ old.number
  number_is = cc (sym m.mine ∙ c.mine)

  -- ---- how the caller went on

  -- by loads and the Install, and then by help
  went_by : (P : Event → Type 0) → P event → ((e : Event) → Serves base e → P e) → WentOn P v w
  went_by P is all = went_more P v x w
      (went_more P v i.before x (goes_on_went P v i.before i.seen)
      (logged_went P i.before event x i.logged is refl))
      (went_all (Serves base) P all x w g)

  tries_event : Tries event
  tries_event change e start = grind (arith, no_start)

  -- the caller went on by tries only
  pub carried_gone : HasGone Tries old new
  carried_gone = grind (arith, caller_gone, serves_keep, went_by, tries_event, help_tries)

  went : WentOn Tries v w
  went = carried_gone.went

  -- ---- its changes

  resolved : IsOut w base → IsResolved w old.number
  resolved out = resolved_helped v x w old.number base (filling_of plan) c.mine
      (subst (IsResolved v) number_is m.allowed.resolved) i g out

  -- if the change has left its slot, the caller is quiet
  pub carried_quiet : IsOut w base → IsQuiet new
  carried_quiet out = grind (arith, resolved)

  -- ---- its row

  -- it is as it was filled, except for its decision
  grown : (row : ChangeRow) → (now w).pieces base ≡ Some (Change row) → ChangeGrows plan.row row
  grown row there =
      let on = change_there (now x).pieces (now w).pieces (went_grow (Serves base) x w g) base
      plan.row (published_row v plan x i) in
      subst (ChangeGrows plan.row) (same_change ((now w).pieces base) on.0 row on.1 there) on.2

  -- before it nothing stood there
  unpublished : (now v).pieces base ≡ None
  unpublished = (sound_now v s).unpublished record { caller = old.number; base = base; size = 9 }
      (c.rows ChangeKind base rows.0)

  -- ---- if it was decided yes

  alone : length (entries_by old.number (changes_of v.start v.words w.log))
      ≤ length (entries_by old.number (changes_of v.start v.words v.log)) + 1
  alone = grind (arith, number_is, went_who, went, no_longer, one_more_entry)

  -- if the change was decided yes, the command took effect
  pub carried_yes : IsDecided w base true → (command : Command) → command_of plan.row ≡ Some command
      → HasTakenEffect v w old.number command plan.row.node (reply_of (now v).pieces plan.row)
  carried_yes d command is = let grew = grown d.row d.published in record {
    base = base;
    fresh = unpublished;
    update = grind (arith, went_now, went, number_is, unpublished, alone);
    command_is = ap command_of grew.others ∙ is;
    node_is = ap (λ r. r.node) grew.others;
    reply_is = reply_stays (now v) (now w) (went_grow Tries v w went) plan.row.key plan.row.from
        (fits_stands (start v.start v.words) v.log plan.row _ m.fits update)
        ∙ sym (ap (reply_of (now w).pieces) grew.others);
  }

  -- ---- if it was decided no

  -- if the change was decided no and has left its slot, the caller is still asked
  pub carried_no : IsDecided w base false → IsOut w base → (command : Command)
      → IsAsked old command → IsAsked new command
  carried_no d out command a = let lawful = went_lawful Tries v w went in
      let t = state_of v.start v.words w.log in let Q = InstallsNoYes t old.number in
      let no : Q event = grind (arith, same_change, went_now, went, two_one) in
      let by = went_by Q no (λ e h. none_no_yes t old.number e (help_installs_none base e h)) in
      asked_still Tries old new command a carried_gone (resolved out)
      (installed_no_entry v.start v.words lawful.opens v.log w.log lawful.enabled old.number
      (no_yes_by t old.number v.log w.log
      (subst (λ who. LaterBy who Q v.log w.log) c.mine by.later)) a.resolved)
    where
      two_one : ◌≡◌ {A = ℕ} (decision_word false) decided_yes → ⊥
      two_one e = omega arith
