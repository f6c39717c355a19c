-- Which rows a caller lacks: by its own record of them, and in the words of its log.
use Rattle.std.specs.Prelude.{◌≡◌, ℕ, List, None}
use Rattle.ist_core.specs.Elements.{Among}
use Rattle.ist_core.specs.Fairness.{IsMerge}
use Rattle.ist_core.specs.Snapshots.{Snapshot, sizes_held}
use Rattle.ist_rule.specs.declared.view.View.{View}
use Rattle.ist_rule.specs.Learning.{now}
use Rattle.ist_rule.specs.Speaking.{number_of}
use Rattle.ist_rows.specs.declared.callers.Caller.{Caller}
use Rattle.ist_rows.specs.declared.kinds.Kind.{Kind}
use Rattle.ist_rows.specs.Building.{AreStuck}
use Rattle.ist_rows.specs.Kinds.{kind_words}
use Rattle.ist_rows.specs.Rows.{row_of, spares_of}

-- this many words were asked for, for a row of a kind of which the caller holds none
pub record LacksKind (who : Caller) (asked : ℕ) : Type 0 where
  pub kind : Kind
  pub asked_is : asked ≡ kind_words kind
  pub none : row_of kind (spares_of who) ≡ None

-- the caller holds no row of this size, apart from rows of builds for which too few words are left
pub record LacksRow (t : Snapshot) (caller size : ℕ) : Type 0 where
  pub building : List ℕ
  pub others : List ℕ
  pub merge : IsMerge (sizes_held t caller) building others
  pub stuck : AreStuck t building
  pub none : ¬ (Among size others)

-- the caller of the view lacks such a row by its end
abbrev pub LacksNow : View → ℕ → Type 0
LacksNow w = LacksRow (now w) (number_of w.who)
