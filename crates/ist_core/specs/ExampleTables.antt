-- Small tables that show where rows lie.
use Rattle.std.specs.Prelude.{ℕ, List, [], ◌∷◌}
use Rattle.ist_core.specs.declared.pairs.Pair.{Pair}
use Rattle.ist_core.specs.Pieces.{Piece, Leaf, Inner}

-- ---- a table of two pairs

-- the pairs (5, 7) and (9, 1)
abbrev pub two_pairs : List Pair
two_pairs = record { key = 5; value = 7 } ∷ record { key = 9; value = 1 } ∷ []

-- the words of a new table of 20 words with these pairs: the fixed words, an inner row, and two leaves
abbrev pub two_pairs_words : List ℕ
two_pairs_words =
    15 ∷ 0 ∷ 0 ∷ 34
    ∷ 0 ∷ 0 ∷ 2 ∷ 2 ∷ 9 ∷ 89 ∷ 105
    ∷ 5 ∷ 7
    ∷ 9 ∷ 1
    ∷ 0 ∷ 0 ∷ 0 ∷ 0 ∷ 0 ∷ []

-- ---- a table of ten pairs

-- a pair
abbrev pub pair : ℕ → ℕ → Pair
pair key value = record { key = key; value = value }

-- a leaf
abbrev pub leaf : ℕ → ℕ → Piece
leaf key value = Leaf record { key = key; value = value }

-- an untouched inner row with this degree, size, keys and slots
abbrev pub node : ℕ → ℕ → List ℕ → List ℕ → Piece
node degree size keys slots =
    Inner record { status = 0; count = 0; degree = degree; size = size; keys = keys; slots = slots }

-- ten pairs whose keys are three apart
abbrev pub ten_pairs : List Pair
ten_pairs =
    pair 1 0 ∷ pair 4 1 ∷ pair 7 2 ∷ pair 10 3 ∷ pair 13 4
    ∷ pair 16 5 ∷ pair 19 6 ∷ pair 22 7 ∷ pair 25 8 ∷ pair 28 9 ∷ []

-- the rows of a new table with these pairs: three parts, of four, three and three keys
abbrev pub ten_rows : List (ℕ × Piece)
ten_rows =
    (4, node 3 10 (13 ∷ 22 ∷ []) (106 ∷ 338 ∷ 498 ∷ []))
    ∷ (13, node 2 4 (7 ∷ []) (162 ∷ 250 ∷ []))
    ∷ (20, node 2 2 (4 ∷ []) (217 ∷ 233 ∷ []))
    ∷ (27, leaf 1 0)
    ∷ (29, leaf 4 1)
    ∷ (31, node 2 2 (10 ∷ []) (305 ∷ 321 ∷ []))
    ∷ (38, leaf 7 2)
    ∷ (40, leaf 10 3)
    ∷ (42, node 2 3 (19 ∷ []) (394 ∷ 481 ∷ []))
    ∷ (49, node 2 2 (16 ∷ []) (449 ∷ 465 ∷ []))
    ∷ (56, leaf 13 4)
    ∷ (58, leaf 16 5)
    ∷ (60, leaf 19 6)
    ∷ (62, node 2 3 (28 ∷ []) (554 ∷ 641 ∷ []))
    ∷ (69, node 2 2 (25 ∷ []) (609 ∷ 625 ∷ []))
    ∷ (76, leaf 22 7)
    ∷ (78, leaf 25 8)
    ∷ (80, leaf 28 9)
    ∷ []
