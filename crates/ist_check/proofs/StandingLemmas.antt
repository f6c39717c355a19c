-- What the decisions require of a state in addition to its replica, after a lawful log. Serves
-- `coming.rt`.
use Rattle.std.proofs.Common.{ℕ, List, ◌≡◌, ◌≢◌, ◌↔◌, IsTrue, Bool, Option, refl, subst}
use Rattle.ist_core.specs.declared.pairs.Pair.{Pair}
use Rattle.ist_core.specs.declared.events.Event.{Event}
use Rattle.ist_core.specs.declared.events.Event.TheVariants.{Enter, Reserve, Install, Okay, Decide, Resolve, Count, Mark, Pass, Finish}
use Rattle.ist_core.specs.declared.lists.Row.{Row}
use Rattle.ist_core.specs.WordTerms.{start}
use Rattle.ist_core.specs.LogTerms.{Log, Lawful, state_of, Enabled}
use Rattle.ist_core.proofs.AllEventLemmas.{sound, sound_start}
use Rattle.check_builds.specs.HeldRows.{HeldAreFree}
use Rattle.ist_check.specs.declared.conditions.Condition.{Condition}
use Rattle.ist_check.specs.Conditions.{says_of}
use Rattle.ist_check.specs.Failing.{TellsCondition}
use Rattle.ist_check.specs.Knowing.{IsOfBuild}

module _ (pairs : List Pair) (words : ℕ) (log : Log) (lawful : Lawful pairs words log) where
  -- if a row is held, none is published there
  pub held_are_free : HeldAreFree (state_of pairs words log)
  held_are_free = (sound (start pairs words) log (sound_start pairs words)
      lawful.enabled).unpublished

-- ---- kinds of events, and what is said of an event said of the same event in other words. Serves
-- `coming.rt` and `failing.rt`.

module _ (pairs : List Pair) (words : ℕ) (log : Log) {other event : Event} (is : other ≡ event) where
  -- the same event may come
  pub enabled_by : (may : Bool) → (IsTrue may ↔ Enabled (start pairs words) log other)
      → IsTrue may ↔ Enabled (start pairs words) log event
  enabled_by may = subst (λ e. IsTrue may ↔ Enabled (start pairs words) log e) is

  -- the same condition of it fails first
  pub tells_by : (fails : Option Condition) → TellsCondition (says_of (start pairs words) log other) fails
      → TellsCondition (says_of (start pairs words) log event) fails
  tells_by fails = subst (λ e. TellsCondition (says_of (start pairs words) log e) fails) is

-- an event of none of the other kinds is of a build
pub of_build : (e : Event) → ((c : ℕ) → e ≢ Enter c) → ((c b n : ℕ) → e ≢ Reserve c b n)
    → ((c x : ℕ) (rows : List Row) → e ≢ Install c x rows) → ((c x : ℕ) → e ≢ Okay c x)
    → ((c x : ℕ) (said : Bool) → e ≢ Decide c x said) → ((c x : ℕ) → e ≢ Resolve c x)
    → ((c n : ℕ) → e ≢ Count c n) → ((c n : ℕ) → e ≢ Mark c n)
    → ((c n i w : ℕ) → e ≢ Pass c n i w) → ((c n k : ℕ) → e ≢ Finish c n k) → IsOfBuild e
of_build (Enter c) enter reserve install okay decide resolve count mark pass finish =
    absurd (enter c refl)
of_build (Reserve c b n) enter reserve install okay decide resolve count mark pass finish =
    absurd (reserve c b n refl)
of_build (Install c x rows) enter reserve install okay decide resolve count mark pass finish =
    absurd (install c x rows refl)
of_build (Okay c x) enter reserve install okay decide resolve count mark pass finish =
    absurd (okay c x refl)
of_build (Decide c x said) enter reserve install okay decide resolve count mark pass finish =
    absurd (decide c x said refl)
of_build (Resolve c x) enter reserve install okay decide resolve count mark pass finish =
    absurd (resolve c x refl)
of_build (Count c n) enter reserve install okay decide resolve count mark pass finish =
    absurd (count c n refl)
of_build (Mark c n) enter reserve install okay decide resolve count mark pass finish =
    absurd (mark c n refl)
of_build (Pass c n i w) enter reserve install okay decide resolve count mark pass finish =
    absurd (pass c n i w refl)
of_build (Finish c n k) enter reserve install okay decide resolve count mark pass finish =
    absurd (finish c n k refl)
of_build _ enter reserve install okay decide resolve count mark pass finish = tt
