-- What `pack` makes of lines: the map that the point lines leave, and a new table of its pairs.
use Rattle.std.specs.Prelude.{◌≡◌, ℕ, ◌+◌, ◌<◌, ◌^◌, List, [], ◌∷◌, length}
use Rattle.ist_core.specs.Images.{IsImage}
use Rattle.ist_core.specs.Lawful.{CanOpen}
use Rattle.ist_core.specs.Map.{Map, no_pairs, map_after, pairs_of}
use Rattle.ist_core.specs.RowLayout.{first_row}
use Rattle.ist_core.specs.Shapes.{ideal_words}
use Rattle.ist_core.specs.StartLayout.{start}
use Rattle.ist_rest.specs.WordRows.{word_at}
use Rattle.tele_lines.specs.declared.items.Cause.{Cause}
use Rattle.tele_lines.specs.declared.items.Item.TheVariants.{Point, Interval}
use Rattle.tele_lines.specs.Answer.{Read, Good, Bad, input_lines}
use Rattle.tele_lines.specs.Lines.{lines_of}

-- what lines leave: a map, or, if one of them is bad, its number and its cause
pub data Left : Type 0 where
  Holds : Map → Left
  Refuses : ℕ → Cause → Left

-- what some lines leave of a map: point lines are carried out, interval lines are skipped
abbrev pub after_lines : Map → List Read → Left
after_lines m [] = Holds m
after_lines m (Good number version (Point command) ∷ lines) =
    after_lines (map_after m command) lines
after_lines m (Good number version (Interval first last) ∷ lines) = after_lines m lines
after_lines m (Bad number cause ∷ lines) = Refuses number cause

-- what an input leaves of the empty map
abbrev pub left_by : List ℕ → Left
left_by bytes = after_lines no_pairs (input_lines (lines_of bytes))

-- the words are those of a new table of these pairs, exactly as many as their ideal tree needs
pub record IsNewTable (m : Map) (words : List ℕ) : Type 0 where
  pub opens : CanOpen (pairs_of m) (length words)
  pub fit : (place : ℕ) → word_at words place < 2 ^ 64
  pub size : length words ≡ first_row + ideal_words (length (pairs_of m))
  pub image : IsImage (start (pairs_of m) (length words)) words
