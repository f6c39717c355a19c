use Rattle.ist_core.proofs.AllLogLemmas.{enabled_before, goes_on_by}
use Rattle.ist_core.specs.LogTerms.{state_of}
use Rattle.ist_core.specs.WordTerms.{start}
use Rattle.laws_stability.proofs.ChangeEventLemmas as changes
use Rattle.laws_stability.proofs.CountEventLemmas.{count_stays}
use Rattle.laws_stability.proofs.InstallEventLemmas.{install_stays}
use Rattle.laws_stability.proofs.stability.exposed_events_stay.Goals as goal

pub returns : goal.returns
returns c = record {
  install = λ caller base rows pairs words earlier log l on can p.
      install_stays pairs words l.opens caller on l.enabled base rows can p.0 p.1;
  count = λ caller node pairs words earlier log l on can p.
      count_stays pairs words caller on l.enabled node can p;
  okay = λ caller base pairs words earlier log l on can p.
      changes.okay_stays pairs words l.opens earlier log
      (goes_on_by on) l.enabled caller base can p.0 p.1;
  pass = λ caller node i word pairs words earlier log l on can p.
      changes.pass_stays pairs words earlier log
      (goes_on_by on) l.enabled caller node i word can p.0 p.1;
  quiet = λ pairs words earlier log l on caller all.
      let before = enabled_before (start pairs words) earlier log on l.enabled in (
        λ node. changes.none_refused pairs words l.opens earlier before caller all
            (state_of pairs words log) node,
        changes.none_accepted pairs words l.opens earlier before caller all
            (state_of pairs words log),
      );
}
