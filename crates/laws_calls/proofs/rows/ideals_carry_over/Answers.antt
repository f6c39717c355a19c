use Rattle.laws_calls.proofs.IdealRowLemmas.{ideal_over, parts_joined, parts_over}
use Rattle.laws_calls.proofs.rows.ideals_carry_over.Goals as goal

pub returns : goal.returns
returns c = record {
  ideal = λ ps qs leaf ref leaves above bases inner ideal.
      ideal_over ps qs bases leaf inner ref leaves above bases ideal (λ base i. i);
  parts = λ ps qs leaf words following above bases inner are.
      parts_over ps qs bases leaf inner words following above bases are (λ base i. i);
  join = λ ps xs ys f. parts_joined ps xs ys f.free f.apart;
}
