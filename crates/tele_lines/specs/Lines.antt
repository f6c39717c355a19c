-- How bytes are cut into lines, and a line into words. Functions of the whole input at once.
use Rattle.std.specs.Prelude.{ℕ, ◌-◌, ◌^◌, ◌==◌, nat_eq, nat_lt, ◌||◌, Bool, if◌then◌else◌, List, [], ◌∷◌, length, take, codes}
use Rattle.std.specs.List.{filter, onto_first, slice_split, ends_with}

-- the byte that ends a line
abbrev pub newline : ℕ
newline = 10

-- the bytes that separate the words of a line: a space and a tab
abbrev pub is_blank : ℕ → Bool
is_blank byte = byte == 32 || byte == 9

-- the most bytes that a good line has
abbrev pub longest : ℕ
longest = 80

-- the most lines that an input may have
abbrev pub line_limit : ℕ
line_limit = 2 ^ 24

-- the lines: bytes are cut at each newline, and any bytes after the last newline are one more line
abbrev pub lines_of : List ℕ → List (List ℕ)
lines_of [] = []
lines_of (byte ∷ bytes) = if byte == newline then [] ∷ lines_of bytes else onto_first byte (lines_of bytes)

-- a byte put onto the first of some lines that newlines end; if there is no line, the byte is
-- dropped
abbrev pub onto_whole : ℕ → List (List ℕ) → List (List ℕ)
onto_whole byte [] = []
onto_whole byte (line ∷ lines) = (byte ∷ line) ∷ lines

-- only the lines that a newline ends
abbrev pub whole_lines : List ℕ → List (List ℕ)
whole_lines [] = []
whole_lines (byte ∷ bytes) = if byte == newline then [] ∷ whole_lines bytes else onto_whole byte (whole_lines bytes)

-- a line without the carriage return at its end, if it has one there
abbrev pub without_return : List ℕ → List ℕ
without_return line = if ends_with nat_eq line (codes "\r") then take (length line - 1) line else line

-- the words: the longest runs of bytes that aren't blank
abbrev pub words_in_line : List ℕ → List (List ℕ)
words_in_line line = filter (λ word. nat_lt 0 (length word)) (slice_split is_blank line)
