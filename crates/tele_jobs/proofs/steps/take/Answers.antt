use Rattle.std.proofs.Common.{ap, refl, [], ◌∷◌}
use Rattle.tele_io.proofs.OutcomeLemmas.{at_ok, at_refusal, on_err, on_ok, on_ok2, on_ok3}
use Rattle.tele_lines.specs.Answer.{Good}
use Rattle.tele_jobs.specs.Open.{Open, map_in}
use Rattle.tele_jobs.proofs.StepLemmas.{part_before, taken_open, taken_full, taken_part, taken_interval, interval_part}
use Rattle.tele_jobs.proofs.OpenLemmas.{open_more}
use Rattle.tele_jobs.proofs.TakenLemmas.{rounds_full, rounds_open, rounds_interval}
use Rattle.tele_jobs.proofs.steps.take.Goals as goal

-- a part of the round before an interval line was answered
pub returns-in_err-answer-in-Interval-clause-part
    : goal.returns-in_err-answer-in-Interval-clause-part
returns-in_err-answer-in-Interval-clause-part g c = at_refusal c.from_residual.result
    (part_before c.args.version (map_in c.args.round.now) c.args.round.now.tasks
    (Good c.args.line.number c.args.version c.args.line.item ∷ []) _ _
    c.in_err-answer-in-Interval.ensures.part)

-- a point line fills the round
pub returns-then-is_full-clause-taken : goal.returns-then-is_full-clause-taken
returns-then-is_full-clause-taken g c = let asks = c.in_default.ensures.asked in
    let met = c.end_round.ensures in
    on_ok3 c.end_round.result met.printed met.following met.none (taken_full c.args.version
    (map_in c.args.round.now) c.args.round.now.tasks c.args.line.number c.args.line.item
    c.in-Point.command c.ask.new.self.tasks c.in-Point.is (ap (λ (o : Open). o.tasks) asks)
    (map_in c.ask.new.self) (map_in c.end_round.new.round) c.end_round.new.round.tasks _ _
    (ap map_in asks) (c.is_full.ensures.value.0 c.if-is_full.true))

pub returns-then-is_full-clause-part : goal.returns-then-is_full-clause-part
returns-then-is_full-clause-part g c = let asks = c.in_default.ensures.asked in
    on_err c.end_round.result c.end_round.ensures.part (taken_part c.args.version
    (map_in c.args.round.now) c.args.round.now.tasks c.args.line.number c.args.line.item
    c.in-Point.command c.ask.new.self.tasks c.in-Point.is (ap (λ (o : Open). o.tasks) asks)
    (map_in c.ask.new.self) _ _ (ap map_in asks))

-- a point line leaves the round open
pub returns-else-is_full-clause-taken : goal.returns-else-is_full-clause-taken
returns-else-is_full-clause-taken g c = let asks = c.in_default.ensures.asked in
    taken_open c.args.version (map_in c.args.round.now) c.args.round.now.tasks c.args.line.number
    c.args.line.item c.in-Point.command c.ask.new.self.tasks c.in-Point.is
    (ap (λ (o : Open). o.tasks) asks) (map_in c.ask.new.self) _ (ap map_in asks)

-- an interval line ends the round
pub returns-in_ok-answer-in-Interval-clause-taken
    : goal.returns-in_ok-answer-in-Interval-clause-taken
returns-in_ok-answer-in-Interval-clause-taken g c = let met = c.in_ok-answer-in-Interval.ensures in
    on_ok c.end_with_pairs.result c.end_with_pairs.ensures.printed
    (taken_interval c.args.version (map_in c.args.round.now) c.args.round.now.tasks
    c.args.line.number c.in-Interval.first c.in-Interval.last c.args.line.item c.in-Interval.is
    c.list.result.now (map_in c.answer.new.round) met.following c.list.ensures.value
    c.answer.new.round.tasks _ _ _ c.requires.open met.none met.printed)

pub returns-in_ok-answer-in-Interval-clause-part : goal.returns-in_ok-answer-in-Interval-clause-part
returns-in_ok-answer-in-Interval-clause-part g c = let met = c.in_ok-answer-in-Interval.ensures in
    on_err c.end_with_pairs.result c.end_with_pairs.ensures.part
    (interval_part c.args.version (map_in c.args.round.now) c.args.round.now.tasks
    c.args.line.number c.in-Interval.first c.in-Interval.last c.args.line.item c.in-Interval.is
    c.list.result.now (map_in c.answer.new.round) met.following c.list.ensures.value _ _ _ met.printed)

-- the lines of the tasks are strictly increasing
pub end_round-requires-clause-rising : goal.end_round-requires-clause-rising
end_round-requires-clause-rising g c κs within =
    (open_more c.args.line.number c.args.round.now c.ask.new.self _ refl c.in_default.ensures.asked
    c.requires.before).rises κs within

-- the round that the line fills is run, and one that stays open isn't
pub returns-then-is_full-clause-ran : goal.returns-then-is_full-clause-ran
returns-then-is_full-clause-ran g c =
    on_ok2 c.end_round.result c.end_round.ensures.ran c.end_round.ensures.none
    (rounds_full c.args.version c.args.line.number c.args.line.item c.args.round.now
    (g.H.Shelf.kept c.args.shelf.now) c.in-Point.command c.in-Point.is c.ask.new.self
    c.in_default.ensures.asked c.end_round.new.round _
    (c.is_full.ensures.value.0 c.if-is_full.true))

pub returns-else-is_full-clause-ran : goal.returns-else-is_full-clause-ran
returns-else-is_full-clause-ran g c =
    rounds_open c.args.version c.args.line.number c.args.line.item c.args.round.now
    (g.H.Shelf.kept c.args.shelf.now) c.in-Point.command c.in-Point.is c.ask.new.self
    c.in_default.ensures.asked

pub returns-else-is_full-clause-before : goal.returns-else-is_full-clause-before
returns-else-is_full-clause-before g c =
    open_more c.args.line.number c.args.round.now c.ask.new.self _ refl c.in_default.ensures.asked
    c.requires.before

-- the round that an interval line ends is run
pub returns-in_ok-answer-in-Interval-clause-ran : goal.returns-in_ok-answer-in-Interval-clause-ran
returns-in_ok-answer-in-Interval-clause-ran g c = let met = c.in_ok-answer-in-Interval.ensures in
    at_ok c.end_with_pairs.result
    (rounds_interval c.args.version c.args.line.number c.args.line.item c.args.round.now
    (g.H.Shelf.kept c.args.shelf.now) c.in-Interval.first c.in-Interval.last c.in-Interval.is
    c.requires.open c.answer.new.round _ met.ran met.none)
