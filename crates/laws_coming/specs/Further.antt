-- A caller that has seen its table make progress.
use Rattle.std.specs.Prelude.{◌<◌}
use Rattle.ist_rule.specs.declared.view.View.{View}
use Rattle.laws_stability.specs.Progress.{progress}

-- between the two views the table has made progress
pub record CameFurther (v w : View) : Type 0 where
  pub more : progress v.log < progress w.log
