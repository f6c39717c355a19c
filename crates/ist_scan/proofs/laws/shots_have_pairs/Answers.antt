use Rattle.ist_scan.proofs.ShotLemmas.{GoesOnWell, frozen_on, has_on, of_pairs, one_pairs, some_pairs}
use Rattle.ist_scan.proofs.laws.shots_have_pairs.Goals as goal

pub returns : goal.returns
returns c = record {
  has = λ p lawful shot f. (let it = some_pairs p shot lawful f in
      (it.0, it.1, λ others h. one_pairs p shot others it.0 h it.1));
  position = λ p lawful position shot o. of_pairs p position shot lawful o;
  stay = λ p q tree seen lawful shot f. (let on : GoesOnWell p q
      = record { tree = tree; seen = seen; lawful = lawful } in
      (frozen_on p q on shot f, λ pairs h. has_on p q on shot pairs h));
}
