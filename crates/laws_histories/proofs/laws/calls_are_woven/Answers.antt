use Rattle.laws_histories.proofs.WovenLemmas.{woven_legal, taken_legal, learnt_first}
use Rattle.laws_histories.proofs.ContentLemmas.{told_at}
use Rattle.laws_histories.proofs.laws.calls_are_woven.Goals as goal

pub returns : goal.returns
returns c = record {
  woven = λ pairs words log lawful passes stand. woven_legal pairs words log passes (told_at pairs words lawful.opens log lawful.enabled).legal stand;
  taken_back = λ pairs words log lawful taken stand. taken_legal pairs words log taken (told_at pairs words lawful.opens log lawful.enabled).legal stand;
  learnt = learnt_first;
}
