use Rattle.std.proofs.Common.{arith}
use Rattle.std.proofs.lemmas.Bool.Decides.{nat_tests}
use Rattle.tele_generations.specs.Ways.Rests.{stays}
use Rattle.tele_generations.proofs.NextTableLemmas.{rests_first}
use Rattle.tele_generations.proofs.rests.rest.Goals as goal

-- an answer is there
pub returns-then-not-is_empty : goal.returns-then-not-is_empty
returns-then-not-is_empty c = let none = c.is_empty.ensures in let not = c.if-not-is_empty.true in
    record { rested = stays (grind (arith, nat_tests)) }

-- none is there, and the first task was answered
pub returns : goal.returns
returns c = let none = c.is_empty.ensures in let is = c.if-not-is_empty.false in record {
  rested = rests_first c.args.turn.answers.items c.push.new.self.items c.args.turn.left.items
      c.remove-task.new.self.items c.args.turn.pairs.items c.in_ok-rested.rested.pairs.items
      c.remove-task.result c.in_ok-rested.rested.answer (grind (arith, nat_tests))
      c.requires.some_left c.remove-task.ensures.value c.remove-task.ensures.items
      c.in_ok-push.ensures.items c.in_ok-rested.ensures.answer c.in_ok-rested.ensures.after
      c.in_ok-rested.ensures.rising;
}
