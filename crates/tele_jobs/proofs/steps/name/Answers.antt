use Rattle.std.proofs.Common.{[], ◌∷◌}
use Rattle.tele_io.proofs.OutcomeLemmas.{at_refusal, on_err, on_ok}
use Rattle.tele_lines.specs.Answer.{Bad}
use Rattle.tele_jobs.specs.Open.{map_in}
use Rattle.tele_jobs.proofs.StepLemmas.{part_before, text_then, part_then}
use Rattle.tele_jobs.proofs.steps.name.Goals as goal

-- a part of the round was answered
pub returns-in_err-answer-clause-part : goal.returns-in_err-answer-clause-part
returns-in_err-answer-clause-part g c = at_refusal c.from_residual.result
    (part_before c.args.version (map_in c.args.round.now) c.args.round.now.tasks
    (Bad c.args.line c.args.cause ∷ []) _ _
    c.in_err-answer.ensures.part)

-- the round was answered, and the bad line named
pub returns-clause-printed : goal.returns-clause-printed
returns-clause-printed g c = on_ok c.end_with_bad.result c.end_with_bad.ensures.printed
    (text_then c.args.version (map_in c.args.round.now) c.args.round.now.tasks
    (Bad c.args.line c.args.cause ∷ []) _ _ _
    c.in_ok-answer.ensures.printed)

-- a part of the line that names it was written
pub returns-clause-part : goal.returns-clause-part
returns-clause-part g c = on_err c.end_with_bad.result c.end_with_bad.ensures.part
    (part_then c.args.version (map_in c.args.round.now) c.args.round.now.tasks
    (Bad c.args.line c.args.cause ∷ []) _ _ _
    c.in_ok-answer.ensures.printed)
