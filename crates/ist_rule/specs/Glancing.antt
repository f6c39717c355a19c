-- A load that is a read of its own: it has its place among the moments of all calls.
use Rattle.std.specs.Prelude.{◌≡◌, ℕ, ◌+◌, ◌∷◌, None}
use Rattle.laws_real_time.specs.declared.moments.Deed.TheVariants.{Begins, GivesUp}
use Rattle.laws_real_time.specs.Moments.{Moments}
use Rattle.ist_core.specs.Logs.{Log}
use Rattle.ist_core.specs.Shown.{IsShown}
use Rattle.ist_rule.specs.declared.view.View.{View}
use Rattle.ist_rule.specs.Learning.{now, moment_seen, TurnedAt}
use Rattle.ist_rule.specs.Playing.{Told}

-- the view that has read one word in no call. It marks the step by a call without a command that is
-- given up at once
abbrev pub glancing : View → Log → Moments → View
glancing v log moments =
    record v {
      log = log;
      moments = moment_seen v log GivesUp ∷ moment_seen v log (Begins None) ∷ moments;
      loaded = v.loaded + 1;
    }

-- the load gave the word at the place, and has its place among the moments of all calls
pub record Glanced (v : View) (place word : ℕ) (w : View) : Type 0 where
  pub turned : TurnedAt v (glancing v) w
  pub stood : (shown : ℕ) → IsShown (now w) place shown → word ≡ shown

-- what such a load learns
abbrev pub glances : Told
glances step me found you = Glanced me.0 step.word found you.0 × (you.1 ≡ me.1)
