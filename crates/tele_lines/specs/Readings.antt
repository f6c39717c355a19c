-- What one line says.
use Rattle.std.specs.Prelude.{ℕ, ◌==◌, nat_le, ◌&&◌, is_none, Bool, false, if◌then◌else◌, List, [], ◌∷◌, length, Option, Some, None, Result, Ok, Err, unwrap_or}
use Rattle.ist_core.specs.declared.commands.Command.TheVariants.{Put, Remove, Get}
use Rattle.tele_lines.specs.declared.items.Item.{Item}
use Rattle.tele_lines.specs.declared.items.Item.TheVariants.{Point, Interval}
use Rattle.tele_lines.specs.declared.items.Cause.{Cause}
use Rattle.tele_lines.specs.declared.items.Cause.TheVariants.{Long, Letter, Fields, Number, Lines}
use Rattle.tele_lines.specs.declared.items.Version.{Version}
use Rattle.tele_lines.specs.declared.items.Version.TheVariants.{One, Two}
use Rattle.tele_lines.specs.declared.items.Said.{Said}
use Rattle.tele_lines.specs.declared.items.Said.TheVariants.{Skips, Chooses, Asks, Fails}
use Rattle.tele_lines.specs.Lines.{longest, without_return, words_in_line}
use Rattle.tele_lines.specs.Numerals.{number_in}

-- the version in force: none before the first line that says something
abbrev pub Mode : Type 0
Mode = Option Version

-- the version by which numbers are read and printed
abbrev pub version_in : Mode → Version
version_in mode = unwrap_or mode One

-- the mode after a line
abbrev pub next_mode : Mode → Said → Mode
next_mode mode Skips = mode
next_mode mode (Chooses version) = Some version
next_mode mode (Asks item) = Some (version_in mode)
next_mode mode (Fails cause) = mode

-- a number that was read, or the cause for a word that is no number
abbrev pub number_or : Option ℕ → Result ℕ Cause
number_or (Some x) = Ok x
number_or None = Err Number

-- the one number that some words are
abbrev pub one_number : Version → List (List ℕ) → Result ℕ Cause
one_number version (x ∷ []) = number_or (number_in version x)
one_number version [] = Err Fields
one_number version (x ∷ y ∷ more) = Err Fields

-- two numbers that were read, or the cause for a word that is no number
abbrev pub numbers_or : Option ℕ → Option ℕ → Result (ℕ × ℕ) Cause
numbers_or (Some x) (Some y) = Ok (x, y)
numbers_or (Some x) None = Err Number
numbers_or None y = Err Number

-- the two numbers that some words are
abbrev pub two_numbers : Version → List (List ℕ) → Result (ℕ × ℕ) Cause
two_numbers version (x ∷ y ∷ []) = numbers_or (number_in version x) (number_in version y)
two_numbers version [] = Err Fields
two_numbers version (x ∷ []) = Err Fields
two_numbers version (x ∷ y ∷ z ∷ more) = Err Fields

-- what a line with one number asks for
abbrev pub asks_one : (ℕ → Item) → Result ℕ Cause → Said
asks_one item (Ok x) = Asks (item x)
asks_one item (Err cause) = Fails cause

-- what a line with two numbers asks for
abbrev pub asks_two : (ℕ → ℕ → Item) → Result (ℕ × ℕ) Cause → Said
asks_two item (Ok p) = Asks (item p.0 p.1)
asks_two item (Err cause) = Fails cause

-- the version that a number names
abbrev pub chosen : Result ℕ Cause → Said
chosen (Ok n) = if n == 1 then Chooses One else (if n == 2 then Chooses Two else Fails Number)
chosen (Err cause) = Fails cause

-- the one byte of a word of one byte
abbrev pub letter_of : List ℕ → Option ℕ
letter_of (byte ∷ []) = Some byte
letter_of [] = None
letter_of (byte ∷ next ∷ more) = None

-- a line with this letter: `P`, `R`, `G`, `I`, and, if no line before it said anything, `V`
abbrev pub by_letter : Mode → Option ℕ → List (List ℕ) → Said
by_letter mode None more = Fails Letter
by_letter mode (Some letter) more =
    let version = version_in mode in
    if letter == 80 then asks_two (λ key value. Point (Put key value)) (two_numbers version more)
    else (if letter == 82 then asks_one (λ key. Point (Remove key)) (one_number version more)
    else (if letter == 71 then asks_one (λ key. Point (Get key)) (one_number version more)
    else (if letter == 73 then asks_two (λ first last. Interval first last) (two_numbers version more)
    else (if letter == 86 && is_none mode then chosen (one_number One more)
    else Fails Letter))))

-- whether a word begins with a number sign
abbrev pub is_note : List ℕ → Bool
is_note [] = false
is_note (byte ∷ bytes) = byte == 35

-- a line of these words; it says nothing if it has no word or if its first word begins with a
-- number sign
abbrev pub by_words : Mode → List (List ℕ) → Said
by_words mode [] = Skips
by_words mode (word ∷ more) = if is_note word then Skips else by_letter mode (letter_of word) more

-- what the line with this number says, if this many lines are allowed
abbrev pub reading : ℕ → ℕ → Mode → List ℕ → Said
reading limit number mode line =
    if nat_le number limit
    then (if nat_le (length (without_return line)) longest then by_words mode (words_in_line (without_return line)) else Fails Long)
    else Fails Lines
