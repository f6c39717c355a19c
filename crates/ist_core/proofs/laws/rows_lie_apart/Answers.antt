use Rattle.std.proofs.Common.{⊎_elim, refl}
use Rattle.ist_core.proofs.PlaceLemmas as places
use Rattle.ist_core.proofs.laws.rows_lie_apart.Goals as goal

pub returns : goal.returns
returns c = record {
  published = λ pairs words log lawful base p e. places.set_aside_claimed pairs words log base _
      ((places.placed pairs words log lawful.enabled).published base p e);
  held = λ pairs words log lawful h i. places.set_aside_claimed pairs words log h.base h.size
      ((places.placed pairs words log lawful.enabled).held h i);
  within = λ pairs words log lawful base size i. places.claimed_within pairs words log base size
      lawful.enabled (places.claimed_set_aside pairs words log base size i);
  apart = λ pairs words log lawful base size other more i j differ.
      ⊎_elim (λ same. absurd (differ same.0)) (λ apart. apart.1)
      (places.claimed_apart pairs words log base size other more lawful.enabled
      (places.claimed_set_aside pairs words log base size i)
      (places.claimed_set_aside pairs words log other more j));
  one_size = λ pairs words log lawful base size more i j.
      ⊎_elim (λ same. same.1) (λ apart. absurd (apart.0 refl))
      (places.claimed_apart pairs words log base size base more lawful.enabled
      (places.claimed_set_aside pairs words log base size i)
      (places.claimed_set_aside pairs words log base more j));
}
