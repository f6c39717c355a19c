-- What a pass has heard of the moments of all calls goes on. Serves all calls.
use Rattle.std.proofs.Common.{◌≡◌, ◌≤◌, ℕ, ◌∷◌, length, Option, sym, subst, ◌∙◌, refl, arith}
use Rattle.ist_core.specs.declared.commands.Command.{Command}
use Rattle.ist_core.specs.TreeTerms.{changes_of, position_after}
use Rattle.ist_core.specs.LogTerms.{Each, Log, same_log}
use Rattle.laws_real_time.specs.declared.moments.Moment.{Moment}
use Rattle.laws_real_time.specs.Moments.{Moments, ended}
use Rattle.laws_real_time.specs.Making.{calls_returned}
use Rattle.ist_rule.specs.RuleTerms.{TurnedAt, MomentsGoOn, same_moments, one_moment}
use Rattle.ist_rule.specs.declared.view.View.{View}
use Rattle.ist_rule.proofs.LaterLemmas.{goes_on_more}
use Rattle.ist_rule.proofs.SpeakLemmas.{go_on_more, later_goes_on}
use Rattle.ist_tree.specs.CallTerms.{HasSeenMore, PassFace, TreeFace, ReturnsInTime, RunsInTime, StepsIn}

-- the same moments go on
pub heard_same : {a b : Moments} → b ≡ a → MomentsGoOn a b
heard_same {a} e = subst (MomentsGoOn a) (sym e) same_moments

-- so do they at a step at which a call begins or ends
pub heard_turned : {turn : Log → Moments → View} {v w : View} (t : TurnedAt v turn w)
    (moment : Moment) → w.moments ≡ moment ∷ t.before → MomentsGoOn v.moments w.moments
heard_turned {v = v} t moment is =
    subst (MomentsGoOn v.moments) (sym is) (one_moment moment (later_goes_on t.since))

-- a pass that saw more twice saw more
pub seen_more_then : (p m q : PassFace) → HasSeenMore p m → HasSeenMore m q → HasSeenMore p q
seen_more_then p m q a b = grind (arith, goes_on_more, go_on_more)

-- a pass has seen what it has seen
pub seen_same : (p : PassFace) → HasSeenMore p p
seen_same p = record {
  tree = refl;
  number = refl;
  seen = same_log;
  heard = same_moments;
  stamp = omega arith;
}

-- ---- a call of the pass

-- a call that was made at once was made after no rounds
pub runs_at_once : (p q : PassFace) (command : Command) (reply : Option ℕ)
    → calls_returned p.number p.moments ≡ p.calls → ReturnsInTime p q command reply
    → RunsInTime p q command reply
runs_at_once p q command reply calls r =
    record { tried = p.moments; goes_on = same_moments; unreturned = calls; returns = r }

-- ---- a step of the pass

-- a step of a later part of a call is one of the call
pub steps_from : (p m q : PassFace) (at : Log) → HasSeenMore p m → StepsIn m q at → StepsIn p q at
steps_from p m q at seen s = record {
  before = s.before;
  since = go_on_more p.moments m.moments s.before seen.heard s.since;
  step = s.step;
  step_by = s.step_by ∙ seen.number;
  heard = s.heard;
  seen = goes_on_more seen.seen s.seen;
  until = s.until;
  placed = subst (λ (t : TreeFace).
      Each (λ x. position_after x.call ≤ length (changes_of t.start t.words at))
      (ended s.before)) seen.tree s.placed;
}

-- so is a step of an earlier part
pub steps_until : (p m q : PassFace) (at : Log) → StepsIn p m at → HasSeenMore m q → StepsIn p q at
steps_until p m q at s seen = grind (arith, go_on_more, goes_on_more)
