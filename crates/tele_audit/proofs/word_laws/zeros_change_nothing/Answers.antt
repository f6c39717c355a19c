use Rattle.tele_audit.proofs.ClaimLemmas.{lawful_zeros, break_zeros}
use Rattle.tele_audit.proofs.word_laws.zeros_change_nothing.Goals as goal

pub returns : goal.returns
returns c = record {
  nothing = λ used zeros least full most. (
    lawful_zeros used zeros least full most,
    break_zeros used zeros full,
  );
}
