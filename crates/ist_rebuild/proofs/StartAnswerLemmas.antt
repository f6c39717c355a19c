-- What `start` returns, by the result of putting the start in. Serves `BegunLemmas`.
use Rattle.std.proofs.Common.{◌≡◌, ◌≢◌, ℕ, Bool, true, false, Result, Some, refl, sym, ◌∙◌, subst, inl, inr, ⊎_elim, arith}
use Rattle.ist_build.specs.Laying.{IsReservation}
use Rattle.ist_core.specs.declared.events.Event.{Event}
use Rattle.ist_core.specs.declared.events.Event.TheVariants.{Okay, Decide, Resolve}
use Rattle.ist_core.specs.declared.ports.Full.{Full}
use Rattle.ist_core.specs.declared.events.Who.TheVariants.{Caller as CallerOf}
use Rattle.ist_core.specs.WordTerms.{Change, IsGoodBase, change_words, rebuild_words, IsOpen}
use Rattle.ist_core.specs.TreeTerms.{Apart}
use Rattle.ist_core.specs.LogTerms.{Snapshot}
use Rattle.ist_rule.specs.RuleTerms.{IsResolved, WentOn, now, IsSound}
use Rattle.ist_rule.specs.declared.view.View.{View}
use Rattle.ist_rule.proofs.WentOnLemmas.{went_all, went_more}
use Rattle.ist_rows.specs.declared.callers.Caller.{Caller}
use Rattle.ist_dcss.specs.Helping.{Serves, IsDecided}
use Rattle.ist_dcss.specs.Installing.{Filling, IsInstalled}
use Rattle.ist_rebuild.specs.declared.answers.Started.{Started}
use Rattle.ist_rebuild.specs.declared.answers.Started.TheVariants.{Yes}
use Rattle.ist_rebuild.specs.Going.{Begins, StartsAt}
use Rattle.ist_rebuild.specs.Starting.{IsStartedAt, LeavesDone, IsStartRefused, StartsDoneBut, StartsDoneSince, LeavesUninstalled, LeavesUnstarted, ReservesNeeded, StartsNone}
use Rattle.ist_rebuild.specs.StartSteps.{IsStartReady, start_filling}
use Rattle.ist_rebuild.proofs.StartReadyLemmas.{rebuild_good, rows_apart}
use Rattle.ist_rebuild.proofs.NeedLemmas.{HasPutIn, begins_reserving, begins_installing, begins_serving, put_went, aims_installing, aims_serving, takes_more}
use Rattle.ist_rebuild.proofs.StartOwnLemmas.{InstallsBut, own_was, starts_but, starts_none_reserving, starts_reserving, put_closed, put_said, put_started, put_to}
use Rattle.ist_rows.proofs.ShortLemmas.{short_from}

-- ---- answers

-- what was installed, helped and decided so is the filling
pub has_put : (v : View) (change : ℕ) (f g : Filling) (said : Bool) (between w : View) → f ≡ g
    → IsInstalled v change f between → WentOn (Serves change) between w → IsDecided w change said
    → HasPutIn v change g said w
has_put v change f g said between w is i helped d = grind arith

-- ---- the rows

-- rows that share no word have different bases
bases_apart : (rebuild change : ℕ) → Apart rebuild rebuild_words change change_words
    → rebuild ≢ change
bases_apart rebuild change a same = ⊎_elim (λ low. omega arith) (λ low. omega arith) a

-- a step of help installs nothing
serving_but : (number change : ℕ) (event : Event) → Serves change event
    → InstallsBut number change event
serving_but number change (Okay c other) is = tt
serving_but number change (Decide c other said) is = tt
serving_but number change (Resolve c other) is = tt
serving_but number change _ is = absurd is

module _ (who : Caller) (parent index target rebuild change : ℕ) (f : Filling)
    (ready : IsStartReady who rebuild change f) (s : IsSound who.token.view) (w : View) where
  abbrev v : View
  v = who.token.view

  abbrev plan : Filling
  plan = start_filling who.number parent index target rebuild

  apart : rebuild ≢ change
  apart = bases_apart rebuild change (rows_apart who rebuild change ready.rows ready.caller s)

  good : IsGoodBase rebuild
  good = rebuild_good who rebuild change ready.rows ready.caller s

  -- ---- how the caller went on

  -- putting a start in only makes steps of a start
  pub put_begins : (said : Bool) → HasPutIn v change plan said w → WentOn Begins v w
  put_begins said h =
      put_went Begins v change plan said w h (λ n. begins_installing change plan refl)
      (begins_serving change)

  -- a start that was put in aims at its target
  pub put_aims : (said : Bool) → HasPutIn v change plan said w → WentOn (StartsAt target) v w
  put_aims said h =
      put_went (StartsAt target) v change plan said w h (aims_installing target change plan refl)
      (aims_serving target change)

  put_but : (said : Bool) → HasPutIn v change plan said w
      → WentOn (InstallsBut who.number change) v w
  put_but said h = put_went (InstallsBut who.number change) v change plan said w h (λ n same. refl)
      (serving_but who.number change)

  -- ---- decided yes

  -- if it was decided yes, the rebuild is started there
  pub yes_started : HasPutIn v change plan true w → (other : ℕ) → Yes rebuild ≡ Yes other
      → IsStartedAt (now w) other parent index target
  yes_started h other is = subst (λ n. IsStartedAt (now w) n parent index target) (cc)
      (put_started who.number parent index target rebuild change apart good v w h)

  -- if it was decided yes, all other starts of the caller since a state are done
  pub yes_done : HasPutIn v change plan true w → (first : Snapshot)
      → StartsDoneSince first (now v) who.number → StartsDoneBut first (now w) who.number rebuild
  yes_done h first done base x e own kind said sent to = ⊎_elim
      (λ same. inl (put_to who.number parent index target rebuild change apart v true w h good x
      (subst (λ b. (now w).pieces b ≡ Some (Change x)) same e) sent to))
      (λ d. inr d)
      (starts_but (InstallsBut who.number change) v w (put_but true h) who.number change
      ready.caller.mine (λ event p. p) ready.quiet.resolved first done base x e own kind said sent to)

  -- ---- decided no

  two_sides : (d : ℕ) → d ≡ 1 → d ≡ 2 → ⊥
  two_sides d e f = omega arith

  -- if it was decided no, the parent isn't open
  pub no_closed : HasPutIn v change plan false w → ¬ (IsOpen (now w) parent)
  no_closed h = put_closed who.number parent index target rebuild change apart v w h.helped.sound h

  -- if it was decided no, all starts of the caller since a state are done
  pub no_done : HasPutIn v change plan false w → (first : Snapshot)
      → StartsDoneSince first (now v) who.number → StartsDoneSince first (now w) who.number
  no_done h first done base x e own kind said sent to = ⊎_elim
      (λ same. absurd (two_sides _ said
      (put_said who.number parent index target rebuild change apart v false w h x
      (subst (λ b. (now w).pieces b ≡ Some (Change x)) same e) ∙ h.decided.decision)))
      (λ d. d)
      (starts_but (InstallsBut who.number change) v w (put_but false h) who.number change
      ready.caller.mine (λ event p. p) ready.quiet.resolved first done base x e own kind said sent to)

  -- if it was decided no, no rebuild was started
  pub no_start : HasPutIn v change plan false w → StartsNone (now v) (now w) who.number
  no_start h base x e own kind said =
      own_was (InstallsBut who.number change) v w (put_but false h) who.number change
      ready.caller.mine (λ event p. p) ready.quiet.resolved base x e own
      (λ same. two_sides _ said
      (put_said who.number parent index target rebuild change apart v false w h x
      (subst (λ b. (now w).pieces b ≡ Some (Change x)) same e) ∙ h.decided.decision))

-- ---- refusals

-- a refusal after reservings
pub refused_after : (u v w : View) (words : ℕ) (full : Full) → WentOn IsReservation u v
    → IsStartRefused v words full w → IsStartRefused u words full w
refused_after u v w words full g r = short_from (WentOn Begins) (WentOn Begins) u v
    (λ x. went_more Begins u v x (went_all IsReservation Begins begins_reserving u v g)) words full w
    r (λ asked. asked)

-- what a start leaves done, after reservings
pub after_done : (v u w : View) → WentOn IsReservation v u → (number same : ℕ)
    → v.who ≡ CallerOf number → IsResolved v number → same ≡ number → (answer : Result Started Full)
    → ((first : Snapshot) → StartsDoneSince first (now u) same → LeavesDone first (now w) same answer)
    → (first : Snapshot) → StartsDoneSince first (now v) number → LeavesDone first (now w) number answer
after_done v u w g number same mine resolved is answer leaves first done =
    subst (λ n. LeavesDone first (now w) n answer) is
    (leaves first (subst (StartsDoneSince first (now u)) (sym is)
    (starts_reserving v u g number mine resolved first done)))

-- ---- what is left undone

-- after reservings nothing more was installed
pub after_uninstalled : (old mid new : Caller) → mid.number ≡ old.number → ReservesNeeded old mid
    → (answer : Result Started Full) → LeavesUninstalled mid new answer
    → LeavesUninstalled old new answer
after_uninstalled old mid new number first answer left = grind (arith, went_more, takes_more)

-- what was not started after reservings was not started from the beginning
pub after_unstarted : (v u w : View) → WentOn IsReservation v u → (number same : ℕ)
    → v.who ≡ CallerOf number → IsResolved v number → same ≡ number
    → (answer : Result Started Full) → LeavesUnstarted (now u) (now w) same answer
    → LeavesUnstarted (now v) (now w) number answer
after_unstarted v u w g number same mine resolved is answer left =
    grind (arith, starts_none_reserving)
