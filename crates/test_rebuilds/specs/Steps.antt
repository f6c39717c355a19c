-- What the steps of these tests promise each other.
use Rattle.std.specs.Prelude.{◌≡◌, ℕ}
use Rattle.ist_core.specs.Marking.{HasTarget}
use Rattle.ist_core.specs.Rebuilding.{IsFinishedWith, IsStarted}
use Rattle.ist_core.specs.Snapshots.{Snapshot}
use Rattle.ist_rule.specs.Faces.{TableFace, TokenFace, IsViewAt}
use Rattle.ist_rows.specs.Going.{IsQuiet}
use Rattle.ist_rebuild.specs.Starting.{MayStart}
use Rattle.ist_rows.specs.declared.callers.Caller.{Caller}
use Rattle.ist_rows.specs.Building.{HasRefused}
use Rattle.ist_rows.specs.Rows.{IsCaller}
use Rattle.ist_updates.specs.declared.updates.Due.{Due}
use Rattle.ist_tree.specs.Insides.{IsMaker}

-- the token is that of the table's maker, which has made this many callers, and entered each
abbrev pub IsMakerAt : TableFace → ℕ → TokenFace → Type 0
IsMakerAt table made token =
    IsViewAt table (λ v. IsMaker v × (v.made ≡ made)) token.view

-- the rebuild is started, and this is its target, which is finished with `keys` keys
pub record HasMarkedTarget (t : Snapshot) (rebuild target keys : ℕ) : Type 0 where
  pub started : IsStarted t rebuild
  pub target_is : HasTarget t rebuild target
  pub finished : IsFinishedWith t target keys

-- the caller, in a call, has made this row due, and may start its rebuild
pub record HasDue (who : Caller) (due : Due) : Type 0 where
  pub caller : IsCaller who
  pub refused : HasRefused who
  pub quiet : IsQuiet who
  pub may : MayStart who.token.view due.parent due.index due.target
