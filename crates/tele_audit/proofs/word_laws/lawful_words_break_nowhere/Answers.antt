use Rattle.std.proofs.Common.{[], ◌∷◌, refl}
use Rattle.ist_rest.specs.Walks.{first_visit}
use Rattle.ist_rest.proofs.WalkLemmas.{no_break, one_break}
use Rattle.tele_audit.proofs.word_laws.lawful_words_break_nowhere.Goals as goal

pub returns : goal.returns
returns c = record {
  nowhere = λ words pairs h place b. no_break words [] (first_visit words ∷ []) place b
      (first_visit words ∷ []) h.holds.rows pairs h.holds.walk refl h.apart;
  one = λ words place other a b. one_break words [] (first_visit words ∷ []) place a []
      (first_visit words ∷ []) other b refl refl;
}
