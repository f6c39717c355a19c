-- A log with a shared root: the rebuild of a tree of 256 keys.
use Rattle.std.specs.Prelude.{ℕ, zero, suc, ◌+◌, true, List, [], ◌∷◌, ◌++◌, length, map, replicate}
use Rattle.std.specs.List.{flat_map, range_with_len}
use Rattle.ist_core.specs.declared.pairs.Pair.{Pair}
use Rattle.ist_core.specs.declared.lists.Row.{Row}
use Rattle.ist_core.specs.declared.events.Event.TheVariants.{Enter, Reserve, Install, Okay, Decide, Resolve, Mark, Pass, Finish, Root, Draw, Place}
use Rattle.ist_core.specs.References.{word_of}
use Rattle.ist_core.specs.StartLayout.{tree_at, placed_parts}
use Rattle.ist_core.specs.Logs.{Log}
use Rattle.ist_core.specs.ExampleTables.{pair}

-- 256 pairs: their tree has its top row at 4, and ends below 2071
abbrev pub many_pairs : List Pair
many_pairs = map (λ i. pair (i + 1) i) (range_with_len 0 256)

-- the rows of the start of its rebuild: the change at 2076, and the rebuild at 2071
abbrev pub share_rows : List Row
share_rows =
    record { base = 2076; words = 0 ∷ 3 ∷ 2 ∷ 0 ∷ 34 ∷ 16572 ∷ 0 ∷ 0 ∷ 0 ∷ [] }
    ∷ record { base = 2071; words = 4 ∷ 2 ∷ 0 ∷ 7 ∷ 0 ∷ [] }
    ∷ []

-- the start is installed
abbrev pub share_installed : Log
share_installed = Install 0 2076 share_rows ∷ Reserve 0 2076 9 ∷ Reserve 0 2071 5 ∷ Enter 0 ∷ []

-- the rebuild is in the anchor's slot
abbrev pub share_started : Log
share_started = Resolve 0 2076 ∷ Decide 0 2076 true ∷ Okay 0 2076 ∷ share_installed

-- the top row is marked
abbrev pub share_marked : Log
share_marked = Mark 0 4 ∷ share_started

-- the passes of a row over these parts, from slot i on
abbrev pub passes_of : ℕ → ℕ → List (ℕ × List Pair) → Log
passes_of base i [] = []
passes_of base i (part ∷ parts) =
    passes_of base (i + 1) parts ++ Pass 0 base i (word_of (tree_at part.0 part.1)) ∷ []

-- the mark of the top row of a tree, if it has one
abbrev pub mark_of : ℕ → List Pair → Log
mark_of base [] = []
mark_of base (one ∷ []) = []
mark_of base (one ∷ two ∷ pairs) = Mark 0 base ∷ []

-- a marked tree is passed and finished, down to this many levels: each slot of its top row is
-- passed, each part is marked and finished in the same way, and then the row is finished
unfoldable pub finish_of : ℕ → ℕ → List Pair → Log
finish_of fuel base [] = []
finish_of fuel base (one ∷ []) = []
finish_of zero base (one ∷ two ∷ pairs) = []
finish_of (suc fuel) base (one ∷ two ∷ pairs) =
    let all = one ∷ two ∷ pairs in
    let parts = placed_parts base all in
    let below = flat_map (λ part. finish_of fuel part.0 part.1 ++ mark_of part.0 part.1) parts in
    Finish 0 base (length all) ∷ (below ++ passes_of base 0 parts)

-- the whole tree is finished
abbrev pub share_finished : Log
share_finished = finish_of 4 4 many_pairs ++ share_marked

-- ---- the root

-- the keys of a top row over these pairs
abbrev pub top_keys : List ℕ
top_keys =
    17 ∷ 33 ∷ 49 ∷ 65 ∷ 81 ∷ 97 ∷ 113 ∷ 129 ∷ 145 ∷ 161 ∷ 177 ∷ 193 ∷ 209 ∷ 225 ∷ 241 ∷ []

-- the new top row at 2085, with every slot Unset
abbrev pub share_root_rows : List Row
share_root_rows =
    record {
      base = 2085;
      words = 0 ∷ 0 ∷ 16 ∷ 256 ∷ (top_keys ++ replicate 16 7);
    }
    ∷ []

-- it becomes the root
abbrev pub share_rooted : Log
share_rooted = Root 0 2071 16682 share_root_rows ∷ Reserve 0 2085 35 ∷ share_finished

-- the first part is drawn
abbrev pub share_drawn : Log
share_drawn = Draw 0 2071 0 ∷ share_rooted

-- ---- the first part

-- the rows of the first part are reserved
abbrev pub share_held : Log
share_held =
    Reserve 0 2208 7
    ∷ Reserve 0 2201 7
    ∷ Reserve 0 2194 7
    ∷ Reserve 0 2187 7
    ∷ Reserve 0 2180 7
    ∷ Reserve 0 2173 7
    ∷ Reserve 0 2166 7
    ∷ Reserve 0 2159 7
    ∷ Reserve 0 2152 7
    ∷ Reserve 0 2145 7
    ∷ Reserve 0 2138 7
    ∷ Reserve 0 2131 7
    ∷ Reserve 0 2120 11
    ∷ share_drawn

-- an inner row over two children
abbrev pub two_over : ℕ → ℕ → ℕ → ℕ → ℕ → Row
two_over base size key left right =
    record { base = base; words = 0 ∷ 0 ∷ 2 ∷ size ∷ key ∷ left ∷ right ∷ [] }

-- the rows of the first part: one over four parts, each of which has a row over two rows
abbrev pub share_part_rows : List Row
share_part_rows =
    record { base = 2120; words = 0 ∷ 0 ∷ 4 ∷ 16 ∷ 5 ∷ 9 ∷ 13 ∷ 17050 ∷ 17218 ∷ 17386 ∷ 17554 ∷ [] }
    ∷ two_over 2131 4 3 17106 17162
    ∷ two_over 2138 2 2 513 529
    ∷ two_over 2145 2 4 601 617
    ∷ two_over 2152 4 7 17274 17330
    ∷ two_over 2159 2 6 745 761
    ∷ two_over 2166 2 8 833 849
    ∷ two_over 2173 4 11 17442 17498
    ∷ two_over 2180 2 10 977 993
    ∷ two_over 2187 2 12 1065 1081
    ∷ two_over 2194 4 15 17610 17666
    ∷ two_over 2201 2 14 1209 1225
    ∷ two_over 2208 2 16 1297 1313
    ∷ []

-- the first part is in the root's slot
abbrev pub share_placed : Log
share_placed = Place 0 2071 0 16962 share_part_rows ∷ share_held
