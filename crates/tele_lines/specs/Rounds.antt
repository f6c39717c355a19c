-- The rounds in which lines are answered, and what has been written once all whole rounds were
-- answered.
use Rattle.std.specs.Prelude.{ℕ, ◌+◌, ◌^◌, ◌==◌, ◌&&◌, ◌||◌, Bool, true, false, if◌then◌else◌, List, [], ◌∷◌}
use Rattle.std.specs.List.{filter, flat_map, onto_first, list_any, count_by}
use Rattle.ist_core.specs.Map.{no_pairs}
use Rattle.tele_lines.specs.declared.items.Item.TheVariants.{Point, Interval}
use Rattle.tele_lines.specs.Lines.{whole_lines}
use Rattle.tele_lines.specs.Answer.{Read, Good, Bad, text_of, input_lines}

-- the most point lines in a round
abbrev pub round_limit : ℕ
round_limit = 2 ^ 14

-- a line with a command on the map
abbrev pub is_point : Read → Bool
is_point (Good number version (Point command)) = true
is_point (Good number version (Interval first last)) = false
is_point (Bad number cause) = false

-- a line that asks for an interval
abbrev pub is_interval : Read → Bool
is_interval (Good number version (Point command)) = false
is_interval (Good number version (Interval first last)) = true
is_interval (Bad number cause) = false

-- whether the lines are cut after this line, if this many lines precede it since the last cut
abbrev pub is_cut : ℕ → Read → Bool
is_cut before line = is_interval line || (is_point line && before + 1 == round_limit)

-- the rounds of some lines, if this many lines precede them since the last cut
abbrev pub rounds_from : ℕ → List Read → List (List Read)
rounds_from before [] = []
rounds_from before (line ∷ lines) =
    if is_cut before line then (line ∷ []) ∷ rounds_from 0 lines
    else onto_first line (rounds_from (before + 1) lines)

-- the rounds: lines are cut after each interval line, and after each point line that is the last
-- that a round may have
abbrev pub rounds : List Read → List (List Read)
rounds lines = rounds_from 0 lines

-- a round is whole if it has an interval line, or as many point lines as a round may have
abbrev pub is_whole : List Read → Bool
is_whole round = list_any is_interval round || count_by is_point round == round_limit

-- the lines of the rounds that are whole
abbrev pub in_whole_rounds : List Read → List Read
in_whole_rounds lines = flat_map (λ round. round) (filter is_whole (rounds lines))

-- the text of the whole rounds, of those lines of some bytes that a newline ends
abbrev pub whole_rounds_text : List ℕ → List ℕ
whole_rounds_text bytes = text_of no_pairs (in_whole_rounds (input_lines (whole_lines bytes)))
