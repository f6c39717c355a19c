-- One walk of a call, from the anchor, after walks of which none took effect: what the call has by
-- each of its results. Serves `apply`.
use Rattle.std.proofs.Common.{◌≡◌, ◌+◌, ◌-◌, ◌<◌, ◌≤◌, ℕ, true, Option, Some, None, refl, sym, subst, arith}
use Rattle.std.specs.Prelude.{IfErr, IsErrAnd, Ok, OnErr, Err, Result}
use Rattle.ist_core.specs.declared.commands.Command.{Command}
use Rattle.ist_core.specs.declared.ports.Full.{Full}
use Rattle.ist_core.specs.WordTerms.{anchor}
use Rattle.ist_core.specs.TreeTerms.{makes_entry}
use Rattle.ist_rule.specs.RuleTerms.{CanGiveUp, TokenFace, Turned, searching, IsSound}
use Rattle.ist_rule.proofs.SearchedOnLemmas.{went_searched}
use Rattle.ist_rule.proofs.WentOnLemmas.{later_by-goes_on, went_same}
use Rattle.laws_stability.specs.Progress.{most_progress, progress}
use Rattle.laws_coming.specs.Further.{CameFurther}
use Rattle.laws_coming.proofs.FurtherLemmas.{fewer_left}
use Rattle.ist_rows.specs.declared.callers.Caller.{Caller}
use Rattle.ist_updates.specs.declared.updates.When.{When}
use Rattle.ist_updates.specs.declared.updates.Outcome.{Outcome}
use Rattle.ist_updates.specs.declared.updates.Outcome.TheVariants.{Took, Nothing, Unmet}
use Rattle.ist_updates.specs.Asking.{Updates, command_for, IsAsked}
use Rattle.ist_updates.specs.Ending.{IsWalk, HasTakenNone, HasDone, HasEnded}
use Rattle.ist_updates.specs.Counting.{CountedNowhere, LeavesDue}
use Rattle.ist_updates.specs.Meeting.{WasMissed}
use Rattle.ist_updates.specs.Refusals.{WasRefused}
use Rattle.ist_updates.specs.Walking.{IsAskedAgain, IsAskedStill, HasWalked}
use Rattle.ist_updates.proofs.ApplyingLemmas.{HasBegunWalk, all_searched, begun_walk, still_on, refused_first, still_counted, still_due, took_is_counted, took_ends, took_due, nothing_told}
use Rattle.ist_updates.proofs.FurtherLemmas.{begun_fresh}
use Rattle.ist_updates.proofs.MissLemmas.{missed_since}
use Rattle.ist_updates.proofs.AfterLemmas.{few_on, paid_on}

-- a caller that is asked may give its call up
may_give_up : (who : Caller) (command : Command) → IsAsked who command → CanGiveUp who.token.view
may_give_up who command a = grind arith

-- a remove that found nothing changes nothing
none_entry : (key : ℕ) (value : Option ℕ) → value ≡ None
    → makes_entry (command_for key value) None ≡ true → ⊥
none_entry key (Some given) is e = cc
none_entry key None is e = cc

-- ---- what it has by its last walk

-- what an outcome is as the result of the call
abbrev pub ended : Outcome → Result Outcome Full
ended outcome = Ok outcome

-- if it met another value, it met it in the call, and took no effect
pub record HasUnmet (old : Caller) (key : ℕ) (when : When) (outcome : Outcome) (new : Caller) : Type 0 where
  pub missed : ended outcome ≡ ended Unmet → WasMissed old.token.view new.token.view key when
  pub given_up : ended outcome ≡ ended Unmet → CanGiveUp new.token.view
  pub nowhere : ended outcome ≡ ended Unmet
      → CountedNowhere old.token.view.log new.token.view.log old.number

-- so it is for each outcome
pub unmet_ends : {old new : Caller} {key : ℕ} {value : Option ℕ} {when : When} {outcome : Outcome}
    → HasDone old key value when outcome new → HasUnmet old key when outcome new
unmet_ends {outcome = outcome} d = record {
  missed = λ is. (d.unmet (same is)).0;
  given_up = λ is. (d.unmet (same is)).1.given_up;
  nowhere = λ is. (d.unmet (same is)).1.nowhere;
}
  where
    same : ended outcome ≡ ended Unmet → outcome ≡ Unmet
    same is = cc

-- if it was refused, it took no effect
pub record HasRefusedAll (old : Caller) (key : ℕ) (value : Option ℕ) (words : ℕ)
    (result : Result Outcome Full) (new : Caller) : Type 0 where
  pub full : IfErr result (λ full. WasRefused old.token.view key value words full new.token.view)
  pub given_up : IfErr result (λ full. CanGiveUp new.token.view)
  pub due : OnErr result (LeavesDue old.token.view new.token.view old.number None)
  pub nowhere : OnErr result (CountedNowhere old.token.view.log new.token.view.log old.number)

-- so it is for each result
pub refused_ends : {old new : Caller} {key : ℕ} {value : Option ℕ} {when : When} {words : ℕ}
    (result : Result Outcome Full) → HasEnded old key value when words result new
    → HasRefusedAll old key value words result new
refused_ends (Ok outcome) e = record { full = tt; given_up = tt; due = tt; nowhere = tt }
refused_ends (Err full) e = grind arith

-- ---- a walk

-- a walk of the call begins, after walks of which none took effect and which progress paid for
pub record IsTurn (old who : Caller) (token : TokenFace) (key : ℕ) (value : Option ℕ) : Type 0 where
  pub asked : IsAsked old (command_for key value)
  pub number : who.number ≡ old.number
  pub again : IsAskedAgain old who (command_for key value)
  pub paid : who.token.view.searches + progress old.token.view.log
      ≤ old.token.view.searches + progress who.token.view.log
  pub turned : Turned who.token.view (searching who.token.view) token.view

-- what the walks so far have done
abbrev WalksOn : Caller → Caller → ℕ → Option ℕ → Type 0
WalksOn old who key value = (who.number ≡ old.number) × IsAskedAgain old who (command_for key value)
    × (who.token.view.searches + progress old.token.view.log
    ≤ old.token.view.searches + progress who.token.view.log)

-- before the first walk nothing was done
pub turns_begin : {old : Caller} (key : ℕ) (value : Option ℕ) → IsSound old.token.view
    → IsAsked old (command_for key value) → WalksOn old old key value
turns_begin {old} key value s asked = grind (arith, went_searched, went_same)

-- a walk begins after them
pub is_turn : {old who : Caller} {token : TokenFace} {key : ℕ} {value : Option ℕ}
    → IsAsked old (command_for key value) → WalksOn old who key value
    → Turned who.token.view (searching who.token.view) token.view → IsTurn old who token key value
is_turn asked i turned = grind arith

module _ {old who : Caller} {token : TokenFace} {key : ℕ} {value : Option ℕ}
    (b : IsTurn old who token key value) where
  abbrev there : Caller
  there = record who { token = token }

  -- it begins at the anchor
  pub turn_begun : HasBegunWalk old there key (command_for key value)
  turn_begun = begun_walk old who token key (command_for key value) b.number b.again b.turned

  -- a caller that is still asked after the walk took no effect in the whole call
  left : (new : Caller) → IsAskedStill there new (command_for key value) → HasTakenNone old new
  left new h = record {
    given_up = may_give_up new (command_for key value) h.asked;
    due = still_due old there key value b.asked turn_begun new h;
    nowhere = still_counted old there key value b.asked turn_begun new h;
  }

  module _ {when : When} {words : ℕ} {new : Caller} where
    -- ---- if it must begin again

    -- after a walk that must begin again the call is as before it
    again_asked : {x : Option Outcome} → x ≡ None → IsWalk there key value when anchor words (Ok x) new
        → IsAskedAgain old new (command_for key value)
    again_asked is h = still_on old there key value b.asked turn_begun new
        (subst (λ y. HasWalked there key value anchor words (Ok y) new) is h.walked)

    -- and the table came further
    again_further : {x : Option Outcome} → x ≡ None
        → IsWalk there key value when anchor words (Ok x) new
        → CameFurther who.token.view new.token.view
    again_further is h = grind (arith, begun_fresh)

    -- which pays for it
    pub again_walks : {x : Option Outcome} → x ≡ None → IsWalk there key value when anchor words (Ok x) new
        → WalksOn old new key value
    again_walks is h = grind (arith, again_asked, paid_on, again_further)

    -- and less progress is left
    pub again_smaller : {x : Option Outcome} → x ≡ None
        → IsWalk there key value when anchor words (Ok x) new
        → most_progress - progress new.token.view.log < most_progress - progress who.token.view.log
    again_smaller is h = grind (arith, fewer_left, again_further)

    -- ---- if it needn't

    -- what its outcome means for the call
    done_by : (outcome : Outcome) → IsWalk there key value when anchor words (Ok (Some outcome)) new
        → HasDone old key value when outcome new
    done_by (Took done) h = let a = b.asked in let t = turn_begun in let on = h.on.gone in record {
      answered = λ n. took_ends old there key value a t new words done on.went h.walked on.caller
          on.number h.on.quiet;
      counted = λ n e. took_is_counted old there key value a t new words done on.went h.walked;
      due = took_due old there key value a t new words done on.went h.walked;
      met = h.met;
      unmet = λ is. absurd (cc);
    }
    done_by Nothing h = let on = h.on.gone in record {
      answered = λ n. nothing_told old there key value b.asked turn_begun new h.walked.0 h.walked.1
          on.caller on.number h.on.quiet;
      counted = λ n e. absurd (none_entry key value h.walked.1.remove e);
      due = (left new h.walked.0).due;
      met = h.met;
      unmet = λ is. absurd (cc);
    }
    done_by Unmet h = let t = turn_begun in record {
      answered = λ n. absurd (n refl);
      counted = λ n e. absurd (n refl);
      due = (left new h.walked).due;
      met = tt;
      unmet = λ is. (
        missed_since Updates old.token.view token.view new.token.view key when
            (later_by-goes_on t.went.went.later) t.since h.on.gone.went (h.missed refl),
        left new h.walked,
      );
    }

    -- the call went on by its walks, which were few
    pub turn_ends : {x : Option Outcome} (outcome : Outcome) → x ≡ Some outcome
        → IsWalk there key value when anchor words (Ok x) new
        → HasEnded old key value when words (Ok outcome) new
    turn_ends {x} outcome is h = record {
      went = all_searched old there key value b.asked turn_begun new h.on.gone.went;
      few_walks = grind (arith, few_on);
      done = done_by outcome
          (subst (λ y. IsWalk there key value when anchor words (Ok y) new) is h);
      refused = tt;
    }

    -- so does one that was refused
    pub turn_refused : (r : Result Outcome Full) {full : Full} → IsErrAnd r (λ x. x ≡ full)
        → IsWalk there key value when anchor words (Err full) new
        → HasEnded old key value when words r new
    turn_refused (Ok x) {full} same h = absurd same
    turn_refused (Err e) {full} same h =
        subst (λ x. HasEnded old key value when words (Err x) new) (sym same)
        record {
          went = all_searched old there key value b.asked turn_begun new h.on.gone.went;
          few_walks = grind (arith, few_on);
          done = tt;
          refused = (
            refused_first old there key value b.asked turn_begun words full new h.walked.1
                h.on.gone.went,
            left new h.walked.0,
          );
        }
