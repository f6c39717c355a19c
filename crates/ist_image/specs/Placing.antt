-- Where the rows of a new table lie, part by part, and their words.
use Rattle.std.specs.Prelude.{◌≡◌, ◌<◌, ◌≤◌, ℕ, ◌+◌, ◌-◌, List, ◌∷◌, length, map, take, drop, get_or}
use Rattle.std.specs.List.{sum_by, flat_map, range_with_len}
use Rattle.std.proofs.Math.ListN.{set}
use Rattle.std.proofs.lemmas.List.Edits.{sets}
use Rattle.ist_core.specs.declared.pairs.Pair.{Pair}
use Rattle.ist_core.specs.Arithmetic.{degree, part_len, part_start}
use Rattle.ist_core.specs.RowLayout.{first_row, place_limit, inner_words}
use Rattle.ist_core.specs.Shapes.{ideal_words}
use Rattle.ist_core.specs.References.{word_of}
use Rattle.ist_core.specs.Pieces.{Piece, words_of}
use Rattle.ist_core.specs.Parts.{parts, first_keys}
use Rattle.ist_core.specs.StartLayout.{tree_at, rows_from}

-- ---- parts by their indices

-- part j of the pairs
abbrev pub part_of : List Pair → ℕ → List Pair
part_of pairs j = take (part_len (length pairs) j) (drop (part_start (length pairs) j) pairs)

-- this is part j of the pairs, which begins at this number, and is shorter than the whole
pub record IsPartOfPairs (pairs : List Pair) (j start : ℕ) (part : List Pair) : Type 0 where
  pub is : part ≡ part_of pairs j
  pub long : length part ≡ part_len (length pairs) j
  pub fewer : length part < length pairs
  pub next : start + length part ≡ part_start (length pairs) (j + 1)
  pub end : start + length part ≤ length pairs

-- how many words the trees of the first j parts of n keys take
abbrev pub words_before : ℕ → ℕ → ℕ
words_before n j = sum_by ideal_words (map (part_len n) (range_with_len 0 j))

-- where the tree of part j of n keys begins, below an inner row at the base
abbrev pub part_base : ℕ → ℕ → ℕ → ℕ
part_base base n j = base + inner_words (degree n) + words_before n j

-- the rows of the trees of all parts from part j on, below an inner row at the base
abbrev pub rows_after : ℕ → List Pair → ℕ → List (ℕ × Piece)
rows_after base pairs j =
    flat_map (λ i. rows_from (part_base base (length pairs) i) (part_of pairs i))
    (range_with_len j (degree (length pairs) - j))

-- the first keys of all parts from part j on
abbrev pub keys_after : List Pair → ℕ → List ℕ
keys_after pairs j =
    map (λ i. get_or (map (λ pair. pair.key) pairs) (part_start (length pairs) i) 0)
    (range_with_len j (degree (length pairs) - j))

-- the words for the trees of all parts from part j on, below an inner row at the base
abbrev pub slots_after : ℕ → List Pair → ℕ → List ℕ
slots_after base pairs j =
    map (λ i. word_of (tree_at (part_base base (length pairs) i) (part_of pairs i)))
    (range_with_len j (degree (length pairs) - j))

-- where the slots of an inner row of n keys at the base begin
abbrev pub slot_base : ℕ → ℕ → ℕ
slot_base base n = base + 3 + degree n

-- a tree of n keys fits into a table, from the base on
pub record FitsAt (base n : ℕ) : Type 0 where
  pub after_fixed : first_row ≤ base
  pub below_limit : base + ideal_words n ≤ place_limit

-- ---- words

-- the words of the rows, one row after another
abbrev pub row_words : List (ℕ × Piece) → List ℕ
row_words rows = flat_map (λ row. words_of row.1) rows

-- the words of the tree of these pairs, from the base on
abbrev pub tree_words : ℕ → List Pair → List ℕ
tree_words base pairs = row_words (rows_from base pairs)

-- the words with the fields and the keys of the top row of the tree of these pairs, from the base on
abbrev pub row_head : List ℕ → ℕ → List Pair → List ℕ
row_head words base pairs =
    sets (set (set (set (set words base 0) (base + 1) 0) (base + 2) (degree (length pairs)))
    (base + 3) (length pairs)) (base + 4) (first_keys (λ pair. pair.key) (drop 1 (parts pairs)))

-- the used words of a new table with these pairs: the fixed words, then the words of the tree
abbrev pub image_words : List Pair → List ℕ
image_words pairs =
    (first_row + ideal_words (length pairs)) ∷ 0 ∷ 0 ∷ word_of (tree_at first_row pairs)
    ∷ tree_words first_row pairs
