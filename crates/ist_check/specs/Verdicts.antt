-- What is found of a list of events, the oldest first: the state after it, or the first event that
-- may not come.
use Rattle.std.specs.Prelude.{◌≡◌, ℕ, List, ◌∷◌, ◌++◌, length, reverse, Some}
use Rattle.ist_core.specs.declared.pairs.Pair.{Pair}
use Rattle.ist_core.specs.declared.events.Event.{Event}
use Rattle.ist_core.specs.declared.events.Event.TheVariants.{Pass, Draw}
use Rattle.ist_core.specs.StartLayout.{start}
use Rattle.ist_core.specs.Enabled.{Enabled}
use Rattle.ist_core.specs.Lawful.{Lawful, state_of}
use Rattle.ist_core.specs.Snapshots.{Shows}
use Rattle.ist_check.specs.declared.conditions.Condition.{Condition}
use Rattle.ist_check.specs.declared.conditions.Condition.TheVariants.{Finished, Set}
use Rattle.ist_check.specs.Conditions.{says_of}
use Rattle.ist_check.specs.Failing.{TellsCondition}
use Rattle.ist_check.specs.declared.judging.Judgement.{Judgement}
use Rattle.ist_check.specs.declared.judging.Judgement.TheVariants.{AllLawful, Refused}

-- event number `at`, from 0, is the first that may not come: the events before it are a lawful log,
-- and it isn't enabled after them
pub record IsFirstUnlawful (pairs : List Pair) (words : ℕ) (events : List Event) (at : ℕ) : Type 0 where
  pub before : List Event
  pub event : Event
  pub after_it : List Event
  pub events_are : events ≡ before ++ event ∷ after_it
  pub at_is : at ≡ length before
  pub lawful : Lawful pairs words (reverse before)
  pub refused : ¬ (Enabled (start pairs words) (reverse before) event)

-- a condition that holds after each lawful log if the conditions before it do: that the word of a
-- Pass is set, as no slot of a marked row is Unset, and that the target of a Draw's rebuild is
-- finished, as the rebuild has a root
abbrev pub IsCovered : Event → Condition → Type 0
IsCovered (Pass caller node i word) Set = Unit {0}
IsCovered (Draw caller rebuild part) Finished = Unit {0}
IsCovered _ _ = ⊥

-- the events before event number `at` are a lawful log; after them this condition of the event is
-- false, and all conditions before it hold; it isn't a covered one
pub record FailsAt (pairs : List Pair) (words : ℕ) (events : List Event) (at : ℕ) (condition : Condition) : Type 0 where
  pub before : List Event
  pub event : Event
  pub after_it : List Event
  pub events_are : events ≡ before ++ event ∷ after_it
  pub at_is : at ≡ length before
  pub lawful : Lawful pairs words (reverse before)
  pub fails : TellsCondition (says_of (start pairs words) (reverse before) event) (Some condition)
  pub uncovered : ¬ (IsCovered event condition)

-- what is found of the events is true: either they are a lawful log, and the state is the one after
-- it; or the event is the first that may not come, and the condition fails there
abbrev pub IsTrueJudgement : List Pair → ℕ → List Event → Judgement → Type 0
IsTrueJudgement pairs words events (AllLawful state) =
    Lawful pairs words (reverse events) × Shows state (state_of pairs words (reverse events))
IsTrueJudgement pairs words events (Refused r) =
    IsFirstUnlawful pairs words events r.at × FailsAt pairs words events r.at r.condition
