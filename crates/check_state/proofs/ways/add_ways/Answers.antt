use Rattle.std.proofs.Common.{subst, sym}
use Rattle.ist_core.specs.WordTerms.{start}
use Rattle.check_events.specs.Remembering.{KnowsWays}
use Rattle.check_state.proofs.ways.add_ways.Goals as goal
use Rattle.check_state.proofs.ways.add_ways.Goals.{in-Some-inner_of_word+in_ok-add_way-in-Some+in_ok-put_slots-in-Some, in_default}

pub loop-preserved : goal.loop-preserved
loop-preserved c = λ pairs words log law mirrors k h.
    let before = c.loop.invariant pairs words log law mirrors k h in
    elim c.match-inner_of_word.branch [
      | in-Some-inner_of_word+in_ok-add_way-in-Some+in_ok-put_slots-in-Some w ↦
          subst (λ ways. KnowsWays ways (start pairs words) log) (sym w.ways-is)
          (w.in_ok-add_way-in-Some.ensures.exact pairs words log law mirrors k before)
      | in_default w ↦ subst (λ ways. KnowsWays ways (start pairs words) log) (sym w.ways-is) before
    ]
