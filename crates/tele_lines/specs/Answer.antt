-- The answer to an input: what a single thread with a plain map writes for its lines, and the exit
-- status.
use Rattle.std.specs.Prelude.{ℕ, ◌+◌, List, [], ◌∷◌, ◌++◌, length, codes, decimal, Option, Some, None}
use Rattle.std.specs.List.{flat_map}
use Rattle.ist_core.specs.declared.pairs.Pair.{Pair}
use Rattle.ist_core.specs.Map.{Map, no_pairs, map_after, reply_to, listed}
use Rattle.tele_lines.specs.declared.items.Item.{Item}
use Rattle.tele_lines.specs.declared.items.Item.TheVariants.{Point, Interval}
use Rattle.tele_lines.specs.declared.items.Cause.{Cause}
use Rattle.tele_lines.specs.declared.items.Cause.TheVariants.{Long, Letter, Fields, Number, Lines}
use Rattle.tele_lines.specs.declared.items.Version.{Version}
use Rattle.tele_lines.specs.Lines.{line_limit, lines_of}
use Rattle.tele_lines.specs.Numerals.{number_text}
use Rattle.tele_lines.specs.declared.items.Said.{Said}
use Rattle.tele_lines.specs.declared.items.Said.TheVariants.{Skips, Chooses, Asks, Fails}
use Rattle.tele_lines.specs.Readings.{Mode, version_in, next_mode, reading}

-- a line that was read and says something, with its number: what it asks for and in which version,
-- or why it is bad
pub data Read : Type 0 where
  Good : ℕ → Version → Item → Read
  Bad : ℕ → Cause → Read

-- a line followed by the lines after it; after a bad line nothing is read
abbrev pub then_read : ℕ → Mode → Said → List Read → List Read
then_read number mode Skips others = others
then_read number mode (Chooses version) others = others
then_read number mode (Asks item) others = Good number (version_in mode) item ∷ others
then_read number mode (Fails cause) others = Bad number cause ∷ []

-- the lines up to the first bad one, as they are read, if the first has this number and is read in
-- this mode
abbrev pub read_from : ℕ → ℕ → Mode → List (List ℕ) → List Read
read_from limit number mode [] = []
read_from limit number mode (line ∷ lines) =
    let said = reading limit number mode line in
    then_read number mode said (read_from limit (number + 1) (next_mode mode said) lines)

-- the text of a reply: its value, or a dash
abbrev pub reply_text : Version → Option ℕ → List ℕ
reply_text version (Some value) = number_text version value
reply_text version None = codes "-"

-- the line that is printed for a point line
abbrev pub answer_text : Version → ℕ → Option ℕ → List ℕ
answer_text version number reply = decimal number ++ codes " " ++ reply_text version reply ++ codes "\n"

-- the line that is printed for a pair
abbrev pub pair_text : Version → Pair → List ℕ
pair_text version pair = number_text version pair.key ++ codes " " ++ number_text version pair.value ++ codes "\n"

-- the first line that is printed for an interval line: how many pairs follow
abbrev pub count_text : ℕ → ℕ → List ℕ
count_text number count = decimal number ++ codes " " ++ decimal count ++ codes "\n"

-- the lines that are printed for an interval line
abbrev pub interval_text : Version → ℕ → List Pair → List ℕ
interval_text version number pairs = count_text number (length pairs) ++ flat_map (pair_text version) pairs

-- the word for a cause
abbrev pub cause_text : Cause → List ℕ
cause_text Long = codes "long"
cause_text Letter = codes "letter"
cause_text Fields = codes "fields"
cause_text Number = codes "number"
cause_text Lines = codes "lines"

-- the line that is printed for a bad line
abbrev pub bad_text : ℕ → Cause → List ℕ
bad_text number cause = codes "! " ++ decimal number ++ codes " " ++ cause_text cause ++ codes "\n"

-- the texts of some lines, each from the map after all commands of the lines before it
abbrev pub text_of : Map → List Read → List ℕ
text_of m [] = []
text_of m (Good number version (Point command) ∷ lines) =
    answer_text version number (reply_to m command) ++ text_of (map_after m command) lines
text_of m (Good number version (Interval first last) ∷ lines) =
    interval_text version number (listed first last m) ++ text_of m lines
text_of m (Bad number cause ∷ lines) = bad_text number cause

-- the exit status after some lines: 3 if there is a bad line, and otherwise 0
abbrev pub exit_status : List Read → ℕ
exit_status [] = 0
exit_status (Good number version item ∷ lines) = exit_status lines
exit_status (Bad number cause ∷ lines) = 3

-- what is written for an input, and the status
pub record Answer : Type 0 where
  pub text : List ℕ
  pub status : ℕ

-- the answer to some lines
abbrev pub answer_to : List Read → Answer
answer_to lines = record { text = text_of no_pairs lines; status = exit_status lines }

-- the lines of an input that say something, up to the first bad one
abbrev pub input_lines : List (List ℕ) → List Read
input_lines lines = read_from line_limit 1 None lines

-- the answer to some bytes
abbrev pub answer : List ℕ → Answer
answer bytes = answer_to (input_lines (lines_of bytes))

-- the line that is printed if the command line is wrong
abbrev pub usage_text : List ℕ
usage_text = codes "! usage\n"
