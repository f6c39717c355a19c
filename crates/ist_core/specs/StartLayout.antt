-- The new table: the ideal tree of the start pairs, laid out from the first row on.
use Rattle.std.specs.Prelude.{ℕ, zero, suc, ◌+◌, List, [], ◌∷◌, length, map, zip, drop, Some, None}
use Rattle.std.specs.List.{flat_map}
use Rattle.ist_core.specs.declared.pairs.Pair.{Pair}
use Rattle.ist_core.specs.Arithmetic.{degree, part_lens}
use Rattle.ist_core.specs.RowLayout.{first_row, inner_words}
use Rattle.ist_core.specs.Shapes.{ideal_words}
use Rattle.ist_core.specs.References.{Ref, Empty, LeafAt, InnerAt, word_of}
use Rattle.ist_core.specs.Statuses.{open_word}
use Rattle.ist_core.specs.Parts.{parts, first_keys}
use Rattle.ist_core.specs.Pieces.{Piece, Leaf, Inner, Pieces, with_row}
use Rattle.ist_core.specs.Snapshots.{Snapshot}

-- the reference to the tree of these pairs, if its first row lies at the base
abbrev pub tree_at : ℕ → List Pair → Ref
tree_at base [] = Empty
tree_at base (pair ∷ []) = LeafAt base
tree_at base (pair ∷ more ∷ pairs) = InnerAt base

-- the bases of trees with these numbers of keys, laid out one after another from the base on
abbrev pub bases_from : ℕ → List ℕ → List ℕ
bases_from base [] = []
bases_from base (n ∷ ns) = base ∷ bases_from (base + ideal_words n) ns

-- the parts of the pairs below an inner row at the base, each with the base of its tree: the first
-- tree follows the row
abbrev pub placed_parts : ℕ → List Pair → List (ℕ × List Pair)
placed_parts base pairs =
    zip (bases_from (base + inner_words (degree (length pairs))) (part_lens (length pairs))) (parts pairs)

-- the first row of the tree of two pairs or more
abbrev pub top_row : ℕ → List Pair → Piece
top_row base pairs =
    Inner record {
      status = open_word;
      count = 0;
      degree = degree (length pairs);
      size = length pairs;
      keys = first_keys (λ pair. pair.key) (drop 1 (parts pairs));
      slots = map (λ part. word_of (tree_at part.0 part.1)) (placed_parts base pairs);
    }

-- the rows of the tree of these pairs from the base on, up to `fuel` levels: a row, then the trees
-- of its parts
unfoldable pub rows_within : ℕ → ℕ → List Pair → List (ℕ × Piece)
rows_within fuel base [] = []
rows_within fuel base (pair ∷ []) = (base, Leaf record { key = pair.key; value = pair.value }) ∷ []
rows_within zero base (pair ∷ more ∷ pairs) = []
rows_within (suc fuel) base (pair ∷ more ∷ pairs) =
    let all = pair ∷ more ∷ pairs in
    (base, top_row base all) ∷ flat_map (λ part. rows_within fuel part.0 part.1) (placed_parts base all)

-- the rows of the tree of these pairs from the base on. A part has fewer pairs than the whole, so
-- one level per pair is enough
abbrev pub rows_from : ℕ → List Pair → List (ℕ × Piece)
rows_from base pairs = rows_within (length pairs) base pairs

-- the rows in the list, by base
abbrev pub pieces_of : List (ℕ × Piece) → Pieces
pieces_of [] = λ base. None
pieces_of (row ∷ rows) = with_row (pieces_of rows) row.0 (Some row.1)

-- the state of a new table of `words` words: the ideal tree of the pairs from the first row on, no
-- callers, no held rows
abbrev pub start : List Pair → ℕ → Snapshot
start pairs words =
    record {
      words = words;
      next = first_row + ideal_words (length pairs);
      callers = 0;
      anchor = word_of (tree_at first_row pairs);
      pieces = pieces_of (rows_from first_row pairs);
      held = [];
    }
