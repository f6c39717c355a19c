use Rattle.ist_core.specs.WordTerms.{start}
use Rattle.ist_core.proofs.AllLogLemmas.{goes_on_by}
use Rattle.laws_stability.proofs.IdealLemmas as builds
use Rattle.laws_stability.proofs.ChangeEventLemmas as changes
use Rattle.laws_stability.proofs.SetLemmas as spare
use Rattle.laws_stability.proofs.stability.enabled_events_stay.Goals as goal

pub returns : goal.returns
returns c = record {
  enter = λ caller pairs words earlier log l on can p. spare.enter_stays
      (start pairs words) on caller can;
  reserve = λ caller base size pairs words earlier log l on can p.
      spare.reserve_stays pairs words l.opens caller on l.enabled base size can p;
  decide = λ caller base said pairs words earlier log l on can p.
      changes.decide_stays pairs words l.opens earlier log
      (goes_on_by on) l.enabled caller base said can p;
  resolve = λ caller base pairs words earlier log l on can p.
      changes.resolve_stays pairs words l.opens earlier log
      (goes_on_by on) l.enabled caller base can p;
  mark = λ caller node pairs words earlier log l on can p.
      changes.mark_stays pairs words earlier log (goes_on_by on) l.enabled caller node can p;
  finish = λ caller node keys pairs words earlier log l on can p.
      changes.finish_stays pairs words earlier log (goes_on_by on) l.enabled caller node keys can p;
  root = λ caller rebuild word rows pairs words earlier log l on can p.
      builds.root_stays pairs words l.opens caller on l.enabled rebuild word rows can p;
  draw = λ caller rebuild part pairs words earlier log l on can p.
      builds.draw_stays pairs words l.opens caller on l.enabled rebuild part can p;
  next_draw = λ pairs words earlier log l caller rebuild part now on can has.
      builds.next_draw_stays pairs words l.opens caller on l.enabled rebuild part now can has;
  place = λ caller rebuild i word rows pairs words earlier log l on can p.
      builds.place_stays pairs words l.opens caller on l.enabled rebuild i word rows can p;
  lose = λ caller bases pairs words earlier log l on can p.
      spare.lose_stays pairs words l.opens caller on l.enabled bases can;
}
