use Rattle.std.proofs.Common.{map, ◌∷◌}
use Rattle.check_fairness.proofs.AddedLemmas.{more_added}
use Rattle.check_fairness.proofs.AnswerLemmas.{some_more}
use Rattle.check_fairness.proofs.readings.read_on.Goals as goal

pub loop-reading-preserved : goal.loop-reading-preserved
loop-reading-preserved c sizes = let lists = map (λ v. v.items) c.args.lists.now in
    more_added (c.in_ok-add_after.ensures.added sizes) (c.loop-reading.invariant sizes)
    (some_more lists c.args.room (c.args.size ∷ sizes) c.args.readings.now
    c.loop-reading.reading-index _ c.loop-reading-test.true)
