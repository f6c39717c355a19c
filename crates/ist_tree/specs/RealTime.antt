-- The calls of a tree in real time: the moments at which they begin and return.
use Rattle.std.specs.Prelude.{◌≡◌, ℕ, ◌<◌, ◌≤◌, List, ◌∷◌, length, Option, Some, None}
use Rattle.ist_core.specs.declared.calls.Call.{Call}
use Rattle.ist_core.specs.declared.commands.Command.{Command}
use Rattle.ist_core.specs.declared.pairs.Pair.{Pair}
use Rattle.ist_core.specs.declared.events.Who.TheVariants.{Caller}
use Rattle.ist_core.specs.Changes.{changes_of}
use Rattle.ist_core.specs.Elements.{Each}
use Rattle.ist_core.specs.Histories.{PassCalls}
use Rattle.ist_core.specs.Logs.{Log, GoesOn}
use Rattle.ist_core.specs.Standing.{position_after}
use Rattle.ist_core.specs.Map.{map_of}
use Rattle.laws_real_time.specs.declared.moments.Deed.TheVariants.{Begins, Returns}
use Rattle.laws_real_time.specs.declared.moments.Moment.{Moment}
use Rattle.laws_real_time.specs.Moments.{Moments, ended, in_call}
use Rattle.laws_real_time.specs.Making.{calls_returned}
use Rattle.laws_real_time.specs.Joining.{IsOver}
use Rattle.laws_real_time.specs.RealTime.{IsLinearizable}
use Rattle.ist_rule.specs.Speaking.{MomentsGoOn, MomentsLater}
use Rattle.ist_tree.specs.Faces.{PassFace, calls_numbered}

-- the calls on the tree up to the pass's last one are linearizable, those of others in progress
-- included. The pass's calls are its calls that returned in them, and it is in none
pub record IsLinearizableFor (p : PassFace) : Type 0 where
  pub linear : IsLinearizable (map_of p.tree.start) p.moments
  pub calls : calls_returned p.number p.moments ≡ p.calls
  pub over : in_call p.number p.moments ≡ None

-- a caller made a call in real time. After the moments that it had heard of there are those of others,
-- then its call begins, then there are those of others, and then its call returns, as the last
pub record ReturnsIn (number : ℕ) (heard now : Moments) (command : Command) (reply : Option ℕ)
    : Type 0 where
  pub before : Moments
  pub since : MomentsLater (Caller number) heard before
  pub began : Moment
  pub began_by : began.caller ≡ number
  pub begins : began.deed ≡ Begins (Some command)
  pub meanwhile : Moments
  pub during : MomentsLater (Caller number) (began ∷ before) meanwhile
  pub returned : Moment
  pub returned_by : returned.caller ≡ number
  pub call : Call
  pub returns : returned.deed ≡ Returns call
  pub command_is : call.command ≡ command
  pub reply_is : call.reply ≡ reply
  pub now_is : now ≡ returned ∷ meanwhile

-- the pass made this one call in real time
abbrev pub ReturnsInTime : PassFace → PassFace → Command → Option ℕ → Type 0
ReturnsInTime p q = ReturnsIn p.number p.moments q.moments

-- the same after rounds that the pass gave up: none of these returned
pub record RunsInTime (p q : PassFace) (command : Command) (reply : Option ℕ) : Type 0 where
  pub tried : Moments
  pub goes_on : MomentsGoOn p.moments tried
  pub unreturned : calls_returned p.number tried ≡ p.calls
  pub returns : ReturnsIn p.number tried q.moments command reply

-- in the call the pass took a step, at which it had seen this log. The calls that had returned before
-- the step have their positions among the changes of that log
pub record StepsIn (p q : PassFace) (at : Log) : Type 0 where
  pub before : Moments
  pub since : MomentsGoOn p.moments before
  pub step : Moment
  pub step_by : step.caller ≡ p.number
  pub heard : MomentsGoOn (step ∷ before) q.moments
  pub seen : GoesOn p.seen at
  pub until : GoesOn at q.seen
  pub placed : Each (λ x. position_after x.call ≤ length (changes_of p.tree.start p.tree.words at))
      (ended before)

-- the calls of all passes on a tree that began with these pairs are linearizable. Their moments begin with
-- those that the maker had heard of. They are the calls of the passes that the maker made, and then took
-- back, by their numbers, and none is in progress
pub record ClosesInTime (start : List Pair) (made : ℕ) (heard : Moments) (taken : List PassCalls)
    : Type 0 where
  pub moments : Moments
  pub goes_on : MomentsGoOn heard moments
  pub linear : IsLinearizable (map_of start) moments
  pub callers : Each (λ moment. moment.caller < made) moments
  pub calls : (number : ℕ) → calls_returned number moments ≡ calls_numbered number taken
  pub over : IsOver moments
