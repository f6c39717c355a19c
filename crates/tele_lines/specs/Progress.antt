-- How far a reader of lines has come, and what its next call returns.
use Rattle.std.specs.Prelude.{◌≡◌, ℕ, ◌+◌, ◌≤◌, ◌⊎◌, List, [], ◌∷◌, ◌++◌, length, Bool, true, false, Option, Some, None}
use Rattle.tele_lines.specs.declared.items.Cause.{Cause}
use Rattle.tele_lines.specs.declared.items.Version.{Version}
use Rattle.tele_lines.specs.declared.items.Said.{Said}
use Rattle.tele_lines.specs.declared.items.Said.TheVariants.{Asks, Fails}
use Rattle.tele_lines.specs.declared.reader.Lines.{Lines}
use Rattle.tele_lines.specs.Buffers.{unread_of, TellsEndOf, piece_limit}
use Rattle.tele_lines.specs.Lines.{newline, lines_of, whole_lines}
use Rattle.tele_lines.specs.Readings.{Mode, version_in, next_mode, reading}
use Rattle.tele_lines.specs.Answer.{Read, Good, read_from, exit_status}

-- how far the reading has come: how many lines are allowed, how many were read, and the mode in
-- which the next is read
pub record Place : Type 0 where
  pub limit : ℕ
  pub count : ℕ
  pub mode : Mode

-- the place of a reader
abbrev pub place_of : Lines → Place
place_of lines = record { limit = lines.limit; count = lines.count; mode = lines.mode }

-- how these lines are read from a place on
abbrev pub read_at : Place → List (List ℕ) → List Read
read_at place lines = read_from place.limit (place.count + 1) place.mode lines

-- the reading goes on after a line that says this
abbrev pub Continues : Said → Type 0
Continues (Fails cause) = ⊥
Continues _ = Unit {0}

-- the place after a line that says this
abbrev pub following : Place → Said → Place
following place said = record { limit = place.limit; count = place.count + 1; mode = next_mode place.mode said }

-- what a line yields: an item with its number and its version, or nothing
abbrev pub reads_given : Place → Said → List Read
reads_given place (Asks item) = Good (place.count + 1) (version_in place.mode) item ∷ []
reads_given place _ = []

-- how many lines a reader allows
abbrev pub limit_of : Lines → ℕ
limit_of lines = lines.limit

-- how many lines it has read
abbrev pub count_of : Lines → ℕ
count_of lines = lines.count

-- the version of the lines
abbrev pub version_of : Lines → Version
version_of lines = version_in lines.mode

-- the mode in which the next line is read
abbrev pub mode_of : Lines → Mode
mode_of lines = lines.mode

-- why the next line is bad, once it was found to be
abbrev pub stop_of : Lines → Option Cause
stop_of lines = lines.stop

-- whether the end of the source was reached
abbrev pub has_ended : Lines → Bool
has_ended lines = lines.ended

-- the bytes that it took from its source and has not yet read as lines
abbrev pub kept_of : Lines → List ℕ
kept_of lines = lines.buffer

-- what is still unread: the bytes that the reader keeps, then those that its source has left, if
-- these are known; after the end of the input the source has none
abbrev pub unread : Lines → Option (List ℕ) → Option (List ℕ)
unread lines left = unread_of lines.buffer lines.ended left

-- the reading went from one place to a later one: these lines were given for the bytes that were
-- taken, and the other bytes stay unread; unless the input has ended, a newline ends the last line
pub record GoesTo (old new : Place) (ended : Bool) (given : List Read) (bytes : List ℕ) (now : Option (List ℕ)) : Type 0 where
  pub taken : List ℕ
  pub rest : List ℕ
  pub left : now ≡ Some rest
  pub same : bytes ≡ taken ++ rest
  pub reads : read_at old (lines_of bytes) ≡ given ++ read_at new (lines_of rest)
  pub whole : ended ≡ false → (more : List ℕ) → read_at old (whole_lines (taken ++ more)) ≡ given ++ read_at new (whole_lines more)

-- the first line of these bytes says this, and what is then left is cut into the lines after it;
-- unless the input has ended, a newline ends the line
pub record TakesLine (place : Place) (said : Said) (bytes : List ℕ) (ended : Bool) (now : Option (List ℕ)) : Type 0 where
  pub line : List ℕ
  pub taken : List ℕ
  pub rest : List ℕ
  pub left : now ≡ Some rest
  pub same : bytes ≡ taken ++ rest
  pub cut : lines_of bytes ≡ line ∷ lines_of rest
  pub says : reading place.limit (place.count + 1) place.mode line ≡ said
  pub whole : ended ≡ false → (more : List ℕ) → whole_lines (taken ++ more) ≡ line ∷ whole_lines more

-- the first line of these bytes says this
pub record MeetsLine (place : Place) (said : Said) (bytes : List ℕ) : Type 0 where
  pub line : List ℕ
  pub others : List (List ℕ)
  pub cut : lines_of bytes ≡ line ∷ others
  pub says : reading place.limit (place.count + 1) place.mode line ≡ said

-- the source's bytes are known, and none is left once the reader has seen its end
abbrev pub TellsEnd : Lines → Option (List ℕ) → Type 0
TellsEnd lines left = TellsEndOf lines.ended left

-- the end of the next line has not been read yet
pub record Waits (lines : Lines) : Type 0 where
  pub going : lines.stop ≡ None
  pub open_end : lines.ended ≡ false
  pub no_line : whole_lines lines.buffer ≡ []

-- the end of the source was reached, and every line was read
pub record IsDone (lines : Lines) : Type 0 where
  pub ended : lines.ended ≡ true
  pub empty : lines.buffer ≡ []
  pub going : lines.stop ≡ None

-- bytes were taken from a source that had these left, and the last read of them was made when no
-- line that a newline ends, within the bytes kept and those taken before, asked for anything or was
-- bad
pub record TakesLast (place : Place) (kept bytes : List ℕ) (now : Option (List ℕ)) : Type 0 where
  pub before : List ℕ
  pub piece : List ℕ
  pub rest : List ℕ
  pub left : now ≡ Some rest
  pub same : bytes ≡ before ++ (piece ++ rest)
  pub few : length piece ≤ piece_limit
  pub waits : read_at place (whole_lines (kept ++ before)) ≡ []

-- a source that had these bytes left was read only while no line whose end was taken asked for
-- anything or was bad
abbrev pub TakesAsNeeded : Place → List ℕ → Bool → List ℕ → Option (List ℕ) → Type 0
TakesAsNeeded place kept ended bytes now =
    (now ≡ Some bytes) ⊎ ((ended ≡ false) × TakesLast place kept bytes now)

-- the bytes that a reader keeps at a place begin with a bad line: the input has ended, or the line is
-- bad if a newline comes after these bytes
abbrev pub ShowsBad : Place → List ℕ → Bool → Type 0
ShowsBad place kept ended =
    (ended ≡ true) ⊎ (exit_status (read_at place (whole_lines (kept ++ newline ∷ []))) ≡ 3)
