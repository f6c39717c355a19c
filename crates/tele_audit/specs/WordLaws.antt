-- The laws on the words of a table at rest. `src/word_laws.rt` lists them.
use Rattle.std.specs.Prelude.{◌≡◌, ℕ, ◌+◌, ◌≤◌, List, [], ◌∷◌, ◌++◌, length, replicate}
use Rattle.ist_core.specs.declared.pairs.Pair.{Pair}
use Rattle.ist_rest.specs.RestingWords.{HoldPairs, AreLawful, BreaksFirstAt}
use Rattle.ist_core.specs.RowLayout.{next_place, first_row, place_limit}
use Rattle.ist_rest.specs.WordRows.{word_at}
use Rattle.ist_rest.specs.Walks.{first_visit}

-- words hold at most one list of pairs
abbrev pub PairsAreOne : Type 0
PairsAreOne = (words : List ℕ) (xs ys : List Pair) → HoldPairs words xs → HoldPairs words ys
    → xs ≡ ys

-- words that are lawful at rest break at no slot
abbrev pub LawfulWordsBreakNowhere : Type 0
LawfulWordsBreakNowhere =
    (words : List ℕ) (pairs : List Pair) → AreLawful words pairs → (place : ℕ)
    → ¬ (BreaksFirstAt words [] (first_visit words ∷ []) place)

-- words break first at one slot at most
abbrev pub BreaksAreOne : Type 0
BreaksAreOne =
    (words : List ℕ) (place other : ℕ) → BreaksFirstAt words [] (first_visit words ∷ []) place
    → BreaksFirstAt words [] (first_visit words ∷ []) other → place ≡ other

-- zeros after the used words change nothing: neither what the words hold, nor where they break
abbrev pub ZerosChangeNothing : Type 0
ZerosChangeNothing =
    (used : List ℕ) (zeros : ℕ) → first_row ≤ length used → word_at used next_place ≡ length used
    → length used + zeros ≤ place_limit
    → ((pairs : List Pair) → AreLawful used pairs → AreLawful (used ++ replicate zeros 0) pairs)
    × ((place : ℕ) → BreaksFirstAt used [] (first_visit used ∷ []) place
    → BreaksFirstAt (used ++ replicate zeros 0) [] (first_visit (used ++ replicate zeros 0) ∷ [])
    place)
