use Rattle.std.proofs.Common.{ℕ, map, sym, subst}
use Rattle.ist_tree.specs.declared.ports.TreePort.{TreePort}
use Rattle.ist_tree.specs.declared.trees.Tree.{Tree}
use Rattle.tele_lanes.specs.declared.lanes.Lane.{Lane}
use Rattle.tele_lanes.specs.Lanes.{TasksInLineOrder, unanswered}
use Rattle.tele_run.proofs.lanes.gather_all.Goals as goal

abbrev Ran : Type 0
Ran = Lane TreePort (Tree × ℕ)

-- lanes that share no line are put back in line order
pub returns-clause-answers : goal.returns-clause-answers
returns-clause-answers c = c.in_ok-answers.ensures.gathered c.requires.answers c.requires.own_lines

pub returns-clause-left : goal.returns-clause-left
returns-clause-left c =
    let left = map (λ (l : Ran). unanswered l.tasks l.answers.list) c.args.lanes.now in
    subst (TasksInLineOrder left) (sym c.into_vec.ensures.value)
    (c.in_ok-left.ensures.gathered c.requires.own_lines)

pub returns-clause-full : goal.returns-clause-full
returns-clause-full c = c.first_refusal.ensures
