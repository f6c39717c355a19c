use Rattle.std.proofs.Common.{◌≡◌, ℕ, ◌+◌, ◌<◌, ◌∙◌, ap, sym, subst, arith, length, lit<}
use Rattle.std.specs.Prelude.{Some}
use Rattle.tele_lines.specs.Progress.{Place}
use Rattle.tele_lines.specs.Rounds.{round_limit}
use Rattle.tele_jobs.specs.declared.jobs.Job.TheVariants.{Read}
use Rattle.tele_jobs.specs.Causes.{IsAnswer, IsCutShort, IsStatus, AnswersLines}
use Rattle.tele_jobs.specs.Open.{Open, IsOpenBefore}
use Rattle.tele_jobs.proofs.OpenLemmas.{open_first}
use Rattle.tele_jobs.proofs.DueRoundLemmas.{rounds_first, rounds_on_if, rounds_end_if}
use Rattle.tele_jobs.proofs.ToldLemmas.{at_first, all_due, on_and_on_if}
use Rattle.tele_jobs.proofs.ReadingLemmas.{reads_none, reads_on_if}
use Rattle.tele_jobs.proofs.AllLemmas.{risen_since, lines_answered}
use Rattle.tele_jobs.proofs.works.answer_all.Goals as goal

-- all is due
pub loop-status-init : goal.loop-status-init
loop-status-init g c = let new = c.new-lines.ensures in let o = c.args.round in
    let fresh = c.requires.fresh in
    let first = at_first o.team o.words c.new-lines.result o new.place fresh in
    let none : length o.tasks ≡ 0 = ap (λ (x : Open). length x.tasks) fresh in record {
      due = all_due _ _ _ _ _ new.fresh new.unended first;
      ran = rounds_first o.team o.words _ _ _ _ _ o new.fresh new.unended first fresh;
      sparing = reads_none _;
      lines = subst (λ n. IsOpenBefore (n + 1) o) (sym (ap (λ (p : Place). p.count) new.place))
          (open_first o.team o.words o fresh);
      end = λ told. record { told = told; none = λ at_end. absurd (cc (at_end, new.unended)) };
      limit = ap (λ (p : Place). p.limit) new.place;
      allowed = omega (arith, ap (λ (p : Place). p.count) new.place);
      going = new.going;
      few = subst (λ n. n < round_limit) (sym none) (lit< tt);
      chosen = λ some. absurd (omega (arith, none, some));
      source_counted = omega arith;
      sink_counted = omega arith;
    }

-- a line was answered
pub loop-status-preserved : goal.loop-status-preserved
loop-status-preserved g c = let next = c.in_default.ensures in let on = next.goes_on in
    let was = c.loop-status.invariant in record {
      due = on_and_on_if _ _ _ _ _ _ _ _ _ _ next.ended was.due on.text;
      ran = rounds_on_if c.args.round.team c.args.round.words _ c.loop-status.round _ _ _ _ _ _ _
          _ was.ran on.rounds;
      sparing = reads_on_if _ _ _ c.loop-status.round c.loop-status.lines _ _ was.due was.sparing
          next.sparing;
      lines = on.before;
      end = λ told. next.end (was.end told);
      limit = next.limit;
      allowed = next.allowed;
      going = on.going;
      few = on.few;
      chosen = λ some. on.chosen;
      source_counted = omega arith;
      sink_counted = omega arith;
    }

-- the answer was written, or as much of it as the status says
pub returns-in-Some-clause-lines : goal.returns-in-Some-clause-lines
returns-in-Some-clause-lines g c = let last = c.in-Some.ensures in
    let was = c.loop-status.invariant in subst (AnswersLines _ _ _ _) (sym c.ended.ensures.status)
    (lines_answered _ _ _ _ _ _ was.due was.sparing was.end was.few last.ends last.sparing last.end
    last.ended)

-- nothing is held back
pub returns-in-Some-clause-passed_on : goal.returns-in-Some-clause-passed_on
returns-in-Some-clause-passed_on g c whole = c.in-Some.ensures.ends.passed_on
    (λ cut. whole (subst IsCutShort (sym c.ended.ensures.status) cut))

-- the rounds of all lines were run
pub returns-in-Some-clause-last : goal.returns-in-Some-clause-last
returns-in-Some-clause-last g c is = let answers = subst IsAnswer c.ended.ensures.status is in
    rounds_end_if c.args.round.team c.args.round.words _ c.loop-status.round _ _ c.step.new.round _
    _ _ _ _ (c.ended.ensures.last answers) (c.ended.ensures.fulls answers)
    c.loop-status.invariant.ran (c.in-Some.ensures.ends.rounds answers)

-- there is no last table if nothing was answered
pub returns-in-Some-clause-no_last : goal.returns-in-Some-clause-no_last
returns-in-Some-clause-no_last g c none =
    c.ended.ensures.none (λ is. none (subst IsAnswer (sym c.ended.ensures.status) is))

-- each status has its cause
pub returns-in-Some-clause-statuses : goal.returns-in-Some-clause-statuses
returns-in-Some-clause-statuses g c =
    subst (IsStatus Read) (sym c.ended.ensures.status) c.in-Some.ensures.ends.is_status

pub returns-in-Some-clause-read_failed : goal.returns-in-Some-clause-read_failed
returns-in-Some-clause-read_failed g c is = risen_since _ _ _ c.loop-status.invariant.source_counted
    (c.in-Some.ensures.read_failed (ap Some (sym c.ended.ensures.status ∙ is)))

pub returns-in-Some-clause-write_failed : goal.returns-in-Some-clause-write_failed
returns-in-Some-clause-write_failed g c is = risen_since _ _ _ c.loop-status.invariant.sink_counted
    (c.in-Some.ensures.write_failed (ap Some (sym c.ended.ensures.status ∙ is)))
