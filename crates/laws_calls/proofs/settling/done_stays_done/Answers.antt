use Rattle.std.proofs.Common.{◌≢◌}
use Rattle.ist_core.specs.declared.events.Who.TheVariants.{Caller}
use Rattle.ist_core.specs.LogTerms.{whose}
use Rattle.laws_calls.specs.Settling.{CountsNothing, InstallsNoStart}
use Rattle.laws_calls.proofs.ClosedLemmas.{closed_above_stays, count_keeps, done_stays, due_stay, others_count_nothing, others_start_nothing, starts_stay}
use Rattle.laws_calls.proofs.settling.done_stays_done.Goals as goal

pub returns : goal.returns
returns c = record {
  done = λ pairs words earlier log l on. done_stays pairs words l.opens earlier log on l.enabled;
  closed = λ pairs words earlier log l on.
      closed_above_stays pairs words l.opens earlier log on l.enabled;
  starts = λ pairs words earlier log l caller later.
      starts_stay pairs words l.opens (λ event. whose event ≢ Caller caller) earlier log caller
      (others_start_nothing caller) later l.enabled;
  due = λ pairs words earlier log l caller later.
      due_stay pairs words l.opens (λ event. whose event ≢ Caller caller) earlier log caller
      (others_count_nothing caller) later l.enabled;
  own_starts = λ pairs words earlier log l caller later.
      starts_stay pairs words l.opens (InstallsNoStart caller) earlier log caller
      (λ event p. p) later l.enabled;
  own_due = λ pairs words earlier log l caller later.
      due_stay pairs words l.opens (CountsNothing caller) earlier log caller
      (λ event p. p) later l.enabled;
  counted = λ pairs words log caller node l.
      count_keeps pairs words l.opens log caller node l.enabled;
}
