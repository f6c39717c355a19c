use Rattle.laws_histories.proofs.ContentLemmas.{told_at, contents_at, pairs_rise_at}
use Rattle.laws_histories.proofs.laws.changes_are_told.Goals as goal

pub returns : goal.returns
returns c = record {
  gives = λ pairs words log lawful key. (told_at pairs words lawful.opens log lawful.enabled).gives key;
  contents = λ pairs words log lawful. contents_at pairs words lawful.opens log lawful.enabled;
  rising = λ pairs words log lawful. pairs_rise_at pairs words lawful.opens log lawful.enabled;
  legal = λ pairs words log lawful. (told_at pairs words lawful.opens log lawful.enabled).legal;
}
