use Rattle.laws_stability.proofs.BoundLemmas.{bounded, within_words}
use Rattle.laws_stability.proofs.OwnLemmas.{installing, never_falls, resolving}
use Rattle.laws_stability.proofs.progress.progress_is_bounded.Goals as goal

pub returns : goal.returns
returns c = record {
  within_words = λ pairs words log l. within_words pairs words l.opens log l.enabled;
  bounded = λ pairs words log l. bounded pairs words l.opens log l.enabled;
  never_falls = never_falls;
  resolving = resolving;
  installing = installing;
}
