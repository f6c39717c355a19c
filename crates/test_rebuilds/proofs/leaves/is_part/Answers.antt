use Rattle.test_rebuilds.proofs.leaves.is_part.Goals as goal

-- so few keys are a share of their own
pub part-requires-clause-few : goal.part-requires-clause-few
part-requires-clause-few c = c.are_few.ensures.few c.if-not-are_few.false
