-- Words of a table at rest: which are in good shape, and which pairs they hold.
use Rattle.std.specs.Prelude.{◌≡◌, ℕ, ◌<◌, ◌≤◌, List, [], ◌∷◌, ◌++◌, length}
use Rattle.ist_core.specs.declared.pairs.Pair.{Pair}
use Rattle.ist_core.specs.RowLayout.{next_place, anchor_status_place, first_row, place_limit}
use Rattle.ist_core.specs.Statuses.{open_word}
use Rattle.ist_core.specs.Map.{pairs_between}
use Rattle.ist_rest.specs.WordRows.{word_at, Span}
use Rattle.ist_rest.specs.Walks.{Visit, IsGood, rows_read, visits_below, Walks, first_visit, AreApart}

-- the fixed words are in good shape, and the words that aren't reserved are 0
pub record HasGoodBounds (words : List ℕ) : Type 0 where
  pub least : first_row ≤ length words
  pub most : length words ≤ place_limit
  pub low : first_row ≤ word_at words next_place
  pub high : word_at words next_place ≤ length words
  pub anchor_status : word_at words anchor_status_place ≡ open_word
  pub free : (place : ℕ) → word_at words next_place ≤ place → place < length words
      → word_at words place ≡ 0

-- the words hold these pairs, in this order: the walk from the anchor's slot on finds them
pub record HoldPairs (words : List ℕ) (pairs : List Pair) : Type 0 where
  pub bounds : HasGoodBounds words
  pub rows : List Span
  pub walk : Walks words (first_visit words ∷ []) rows pairs

-- the words hold some pairs
abbrev pub Hold : List ℕ → Type 0
Hold words = (pairs : List Pair) × HoldPairs words pairs

-- these are the pairs of the interval that the words hold
abbrev pub AreListed : List ℕ → ℕ → ℕ → List Pair → Type 0
AreListed words first last found =
    (pairs : List Pair) × HoldPairs words pairs × (found ≡ pairs_between first last pairs)

-- the words hold these pairs, and no two rows that the walk reads share a word: the words are
-- lawful at rest
pub record AreLawful (words : List ℕ) (pairs : List Pair) : Type 0 where
  pub holds : HoldPairs words pairs
  pub apart : AreApart [] holds.rows

-- the rows that were read, after these are read too, one by one
abbrev pub read_on : List Span → List Span → List Span
read_on seen [] = seen
read_on seen (span ∷ spans) = read_on (span ∷ seen) spans

-- the first slot of the walk that isn't in good shape or shares a word is at this place, if these
-- rows were read before
pub data BreaksFirstAt (words : List ℕ) : List Span → List Visit → ℕ → Type 0 where
  breaks : {seen : List Span} {visit : Visit} {visits : List Visit}
      → ((at : IsGood words visit) → AreApart seen (rows_read words visit at.ref) → ⊥)
      → BreaksFirstAt words seen (visit ∷ visits) visit.place
  later : {seen : List Span} {visit : Visit} {visits : List Visit} {place : ℕ}
      (at : IsGood words visit)
      → AreApart seen (rows_read words visit at.ref)
      → BreaksFirstAt words (read_on seen (rows_read words visit at.ref))
      (visits_below words visit at.ref ++ visits) place
      → BreaksFirstAt words seen (visit ∷ visits) place
