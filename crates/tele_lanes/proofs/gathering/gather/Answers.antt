use Rattle.std.proofs.Common.{subst, ◌∙◌, ap, arith, IfOk}
use Rattle.std.specs.List.{flat_map}
use Rattle.std.specs.List.Sorted.{IsPermutation}
use Rattle.std.proofs.lemmas.List.{take_all}
use Rattle.tele_lanes.proofs.LineLemmas.{IfOk-both, gathered_answers}
use Rattle.tele_lanes.proofs.gathering.gather.Goals as goal

-- after the loop the answers of all lanes follow one another
pub returns : goal.returns
returns g c = let lanes = c.args.lanes.now in
    let all = c.loop-lane.invariant
    ∙ ap (flat_map (λ l. l.answers.list)) (take_all c.loop-lane.lane-index lanes (omega arith)) in
    let same = subst (λ xs. IfOk c.sort_answers.result (λ v. IsPermutation xs v.items)) all
    c.sort_answers.ensures.same in
    record {
      same = same;
      rising = c.sort_answers.ensures.rising;
      gathered = IfOk-both c.sort_answers.result _ _ _
          (λ v moved up first own.
          gathered_answers (λ l. l.tasks) (λ l. l.answers.list) lanes own v.items first moved up)
          same c.sort_answers.ensures.rising;
    }
