-- What is wrong with bytes that are no dump of lawful words: the first flaw in this order.
use Rattle.std.specs.Prelude.{◌≡◌, ℕ, ◌+◌, ◌-◌, ◌*◌, ◌==◌, ◌||◌, nat_eq, nat_lt, Bool, if◌then◌else◌, zero, suc, List, [], ◌∷◌, ◌++◌, length, take, drop, replicate, Option, Some, None}
use Rattle.std.specs.Int.{w64, from_le_bytes}
use Rattle.std.specs.List.{starts_with}
use Rattle.ist_core.specs.RowLayout.{first_row, place_limit, anchor_status_place}
use Rattle.ist_core.specs.Statuses.{open_word}
use Rattle.ist_rest.specs.WordRows.{word_at}
use Rattle.ist_rest.specs.Walks.{first_visit}
use Rattle.ist_rest.specs.RestingWords.{BreaksFirstAt}
use Rattle.tele_audit.specs.declared.flaws.Flaw.{Flaw}
use Rattle.tele_audit.specs.declared.flaws.Flaw.TheVariants.{Magic, Short, Size, Used, Long, Anchor, Row}
use Rattle.tele_audit.specs.Dumps.{magic}

-- ---- what bytes say

-- the number that the first eight bytes encode
unfoldable pub number_encoded : List ℕ → ℕ
number_encoded bytes = from_le_bytes w64 (take 8 bytes)

-- this many numbers, one after another
unfoldable pub numbers_in : ℕ → List ℕ → List ℕ
numbers_in zero bytes = []
numbers_in (suc count) bytes = number_encoded bytes ∷ numbers_in count (drop 8 bytes)

-- the number of words that the bytes give for the table
abbrev pub count_told : List ℕ → ℕ
count_told bytes = number_encoded (drop 8 bytes)

-- the first word: the number of used words
abbrev pub used_told : List ℕ → ℕ
used_told bytes = number_encoded (drop 16 bytes)

-- the length in bytes of a dump with this many used words
abbrev pub dump_length : ℕ → ℕ
dump_length used = 16 + 8 * used

-- the used words that the bytes give
abbrev pub words_told : List ℕ → List ℕ
words_told bytes = numbers_in (used_told bytes) (drop 16 bytes)

-- the words of the whole table: the used ones, then zeros
abbrev pub table_told : List ℕ → List ℕ
table_told bytes = words_told bytes ++ replicate (count_told bytes - used_told bytes) 0

-- ---- flaws

-- the number is out of these bounds
abbrev pub is_out : ℕ → ℕ → ℕ → Bool
is_out low high number = nat_lt number low || nat_lt high number

-- what is wrong with the first numbers
abbrev pub head_flaw : List ℕ → Option Flaw
head_flaw bytes =
    if starts_with nat_eq bytes magic
    then (if nat_lt (length bytes) 16 then Some Short
    else (if is_out first_row place_limit (count_told bytes) then Some Size
    else (if nat_lt (length bytes) 24 then Some Short
    else (if is_out first_row (count_told bytes) (used_told bytes) then Some Used
    else None))))
    else Some Magic

-- what is wrong with how many bytes there are
abbrev pub length_flaw : List ℕ → Option Flaw
length_flaw bytes =
    if nat_lt (length bytes) (dump_length (used_told bytes)) then Some Short
    else (if nat_lt (dump_length (used_told bytes)) (length bytes) then Some Long
    else None)

-- what is wrong with the anchor
abbrev pub anchor_flaw : List ℕ → Option Flaw
anchor_flaw bytes =
    if word_at (words_told bytes) anchor_status_place == open_word then None else Some Anchor

-- the first of two flaws
abbrev pub flaw_or : Option Flaw → Option Flaw → Option Flaw
flaw_or (Some flaw) next = Some flaw
flaw_or None next = next

-- what is wrong before any row is read
abbrev pub flaw_before_rows : List ℕ → Option Flaw
flaw_before_rows bytes =
    flaw_or (head_flaw bytes) (flaw_or (length_flaw bytes) (anchor_flaw bytes))

-- nothing is wrong before the rows, and the first slot of the walk that breaks the rules is at this
-- place
pub record BreaksAtRow (bytes : List ℕ) (place : ℕ) : Type 0 where
  pub before : flaw_before_rows bytes ≡ None
  pub breaks : BreaksFirstAt (table_told bytes) [] (first_visit (table_told bytes) ∷ []) place

-- the first flaw of the bytes
abbrev pub IsFirstFlaw : List ℕ → Flaw → Type 0
IsFirstFlaw bytes (Row place) = BreaksAtRow bytes place
IsFirstFlaw bytes flaw = flaw_before_rows bytes ≡ Some flaw
