use Rattle.std.proofs.Common.{◌∷◌, [], refl}
use Rattle.ist_rest.specs.Walks.{first_visit}
use Rattle.ist_rest.proofs.WalkLemmas.{one_walk}
use Rattle.tele_audit.proofs.word_laws.pairs_are_one.Goals as goal

pub returns : goal.returns
returns c = record {
  one = λ words xs ys h k. (one_walk words (first_visit words ∷ []) h.rows xs
      h.walk (first_visit words ∷ []) k.rows ys refl k.walk).1;
}
