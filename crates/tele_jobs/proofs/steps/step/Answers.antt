use Rattle.std.proofs.Common.{[], ◌∷◌, ap, arith, refl, sym, subst}
use Rattle.std.specs.Prelude.{Err, IsSome}
use Rattle.tele_io.specs.Bytes.{AppendsPart}
use Rattle.tele_lines.specs.Answer.{Bad}
use Rattle.tele_jobs.specs.Open.{map_in}
use Rattle.tele_jobs.proofs.OpenLemmas.{each_below}
use Rattle.tele_jobs.proofs.StepLemmas.{at_end}
use Rattle.tele_jobs.proofs.StepKindLemmas.{line_taken, line_cut, input_done, bad_done, read_done, last_cut, none_cut}
use Rattle.tele_jobs.proofs.steps.step.Goals as goal

-- the lines before have lower numbers
pub take-requires-clause-before : goal.take-requires-clause-before
take-requires-clause-before g c = let b = c.requires.before in
    let past = (rw c.in-Ok-Some.field-0-is at c.in-Ok-Some.ensures.number).0 in
    record { rises = b.rises; below = each_below _ _ _ (omega arith) b.below; few = omega (arith, b.few) }

-- a line was taken
pub returns-in-Ok-clause-goes_on : goal.returns-in-Ok-clause-goes_on
returns-in-Ok-clause-goes_on g c = let next = c.in-Ok-Some.ensures in
    let v = c.version.ensures.value in
    let goes = rw (← v) at (rw c.in-Ok-Some.field-0-is at next.line) in
    let number = rw c.in-Ok-Some.field-0-is at next.number in
    let mode = rw c.in-Ok-Some.field-0-is at next.chosen in let took = c.in-Ok.ensures in
    line_taken _ _ _ _ v c.requires.chosen next.steady c.in-Ok-Some.line.number
    c.in-Ok-Some.line.item goes took.taken took.ran took.passed_on next.going number.0 number.1
    took.open (subst IsSome (sym mode) refl) took.before

pub returns-in-Err-clause-ends : goal.returns-in-Err-clause-ends
returns-in-Err-clause-ends g c = let next = c.in-Ok-Some.ensures in
    let v = c.version.ensures.value in
    let goes = rw (← v) at (rw c.in-Ok-Some.field-0-is at next.line) in
    line_cut _ _ _ _ v c.requires.chosen next.steady c.in-Ok-Some.line.number
    c.in-Ok-Some.line.item _ c.refused.ensures.other goes c.in-Err.ensures.part

-- the input has ended, and the open round was answered
pub returns-in-Ok-end_round-clause-ends : goal.returns-in-Ok-end_round-clause-ends
returns-in-Ok-end_round-clause-ends g c = let next = c.in-Ok-None.ensures in
    let v = c.version-in-Ok-None.ensures.value in
    let reads = rw c.in-Ok-None.field-0-is at next.none in
    let done = rw c.in-Ok-None.field-0-is at next.done in let met = c.in-Ok-end_round.ensures in
    input_done _ _ _ _ v c.requires.chosen next.steady reads c.requires.open met.printed met.ran
    met.passed_on done.ended

pub returns-in-Err-end_round-clause-ends : goal.returns-in-Err-end_round-clause-ends
returns-in-Err-end_round-clause-ends g c = let next = c.in-Ok-None.ensures in
    let v = c.version-in-Ok-None.ensures.value in
    let reads = rw c.in-Ok-None.field-0-is at next.none in let tasks = c.args.round.now.tasks in
    last_cut _ _ _ _ v c.requires.chosen next.steady [] reads _
    c.refused-in-Err-end_round.ensures.other
    (subst (AppendsPart _ _) (at_end c.version-in-Ok-None.result (map_in c.args.round.now) tasks)
    c.in-Err-end_round.ensures.part)

-- a bad line was named
pub returns-in-Ok-name-clause-ends : goal.returns-in-Ok-name-clause-ends
returns-in-Ok-name-clause-ends g c = let next = c.in-Err-Bad.ensures in
    let v = c.version-in-Err-Bad.ensures.value in let n = c.in-Err-Bad.line in
    let cause = c.in-Err-Bad.cause in let is = ap Err c.in-Err-Bad.field-0-is in
    let going = c.requires.going in let met = c.in-Ok-name.ensures in
    bad_done _ _ _ _ v c.requires.chosen next.steady n cause (next.bad n cause is going)
    c.requires.open met.printed met.ran met.passed_on (next.skipped n cause is going)
    (next.shown n cause is going)

pub returns-in-Err-name-clause-ends : goal.returns-in-Err-name-clause-ends
returns-in-Err-name-clause-ends g c = let next = c.in-Err-Bad.ensures in
    let v = c.version-in-Err-Bad.ensures.value in let n = c.in-Err-Bad.line in
    let cause = c.in-Err-Bad.cause in let is = ap Err c.in-Err-Bad.field-0-is in
    last_cut _ _ _ _ v c.requires.chosen next.steady (Bad n cause ∷ [])
    (next.bad n cause is c.requires.going) _ c.refused-in-Err-name.ensures.other
    c.in-Err-name.ensures.part

-- the source failed, and nothing was written
pub returns-in-Ok-pass_on-clause-ends : goal.returns-in-Ok-pass_on-clause-ends
returns-in-Ok-pass_on-clause-ends g c = let next = c.in-Err-Read.ensures in
    let is = ap Err c.in-Err-Read.field-0-is in
    read_done _ _ _ _ refl c.requires.chosen next.steady refl (next.passed is)
    c.pass_on.ensures.same (next.waiting is) c.in-Ok-pass_on.ensures.none

pub returns-in-Err-pass_on-clause-ends : goal.returns-in-Err-pass_on-clause-ends
returns-in-Err-pass_on-clause-ends g c =
    none_cut _ _ _ _ refl c.requires.chosen c.in-Err-Read.ensures.steady _
    c.refused-in-Err-pass_on.ensures.other c.pass_on.ensures.same
