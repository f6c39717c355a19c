-- How many words the tables of a round have.
use Rattle.std.specs.Prelude.{ℕ, ◌+◌, ◌*◌, min, max}
use Rattle.ist_core.specs.RowLayout.{first_row, place_limit}
use Rattle.ist_core.specs.Shapes.{ideal_words}

-- the fewest words of a table that begins with this many pairs
abbrev pub least_words : ℕ → ℕ
least_words pairs = first_row + ideal_words pairs

-- how many words the first table has for each line and each worker, in addition to the fewest
abbrev pub words_a_line : ℕ
words_a_line = 512

-- the words of the first table of a round, by its lines; at most `most`, unless its pairs need more
abbrev pub first_words : ℕ → ℕ → ℕ → ℕ → ℕ
first_words most workers pairs lines =
    max (least_words pairs) (min most (least_words pairs + words_a_line * workers * lines))

-- the words of the table after one that ran full: twice as many, or what the pairs need, and at
-- most what a table may have
abbrev pub next_words : ℕ → ℕ → ℕ
next_words words pairs = min place_limit (max (2 * words) (least_words pairs))
