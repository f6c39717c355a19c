use Rattle.std.proofs.Common.{subst, ◌∙◌, ap, arith, IfOk}
use Rattle.std.specs.List.{flat_map}
use Rattle.std.specs.List.Sorted.{IsPermutation}
use Rattle.std.proofs.lemmas.List.{take_all}
use Rattle.tele_lanes.specs.Lanes.{unanswered}
use Rattle.tele_lanes.proofs.LineLemmas.{IfOk-both, gathered_tasks}
use Rattle.tele_lanes.proofs.gathering.open_tasks.Goals as goal

-- after the loop the tasks that the lanes left follow one another
pub returns : goal.returns
returns g c = let lanes = c.args.lanes.now in
    let all = c.loop-lane.invariant
    ∙ ap (flat_map (λ l. unanswered l.tasks l.answers.list))
    (take_all c.loop-lane.lane-index lanes (omega arith)) in
    let same = subst (λ xs. IfOk c.sort_tasks.result (λ v. IsPermutation xs v)) all
    c.sort_tasks.ensures.same in
    record {
      same = same;
      rising = c.sort_tasks.ensures.rising;
      gathered = IfOk-both c.sort_tasks.result _ _ _
          (λ v moved up own.
          gathered_tasks (λ l. l.tasks) (λ l. l.answers.list) lanes own v moved up)
          same c.sort_tasks.ensures.rising;
    }
