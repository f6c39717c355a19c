-- The words of a new table represent its pairs. Serves `laws.new_words_stand`.
use Rattle.std.proofs.Common.{ℕ, List, [], length, refl}
use Rattle.ist_core.specs.declared.pairs.Pair.{Pair}
use Rattle.ist_core.specs.WordTerms.{start, IsImage, Change}
use Rattle.ist_core.specs.LogTerms.{CanOpen}
use Rattle.ist_core.specs.TreeTerms.{StandsFor}
use Rattle.laws_links.proofs.ComesLemmas.{start_quiet}

-- the words of a new table represent its pairs: it has no event yet, and no slot holds a change
pub new_stand : (pairs : List Pair) (words : List ℕ) → CanOpen pairs (length words)
    → IsImage (start pairs (length words)) words → StandsFor words pairs []
new_stand pairs words opens image = record {
  log = [];
  lawful = record { opens = opens; enabled = tt };
  image = image;
  resolved = λ caller base change e owner. absurd (start_quiet pairs (length words) base
      (Change change) e);
  calls = [];
  told_are = refl;
  at_rest = refl;
  stand = tt;
}
