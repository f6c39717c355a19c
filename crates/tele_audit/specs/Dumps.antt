-- Dumps: the words of a table, as bytes.
use Rattle.std.specs.Prelude.{◌≡◌, ℕ, ◌<◌, ◌^◌, List, ◌++◌, length, take, codes}
use Rattle.std.specs.Int.{w64, to_le_bytes}
use Rattle.std.specs.List.{flat_map}
use Rattle.ist_core.specs.declared.pairs.Pair.{Pair}
use Rattle.ist_core.specs.RowLayout.{next_place}
use Rattle.ist_rest.specs.WordRows.{word_at}
use Rattle.ist_rest.specs.RestingWords.{AreLawful}

-- the bytes that a dump begins with
abbrev pub magic : List ℕ
magic = codes "CISTDUMP"

-- a number as eight bytes, lowest byte first
unfoldable pub number_bytes : ℕ → List ℕ
number_bytes number = to_le_bytes w64 number

-- the used words of a table, up to the first free one
abbrev pub used_words : List ℕ → List ℕ
used_words words = take (word_at words next_place) words

-- the dump of a table with these words: the number of words, and the used ones
abbrev pub dump_of : List ℕ → List ℕ
dump_of words = magic ++ number_bytes (length words) ++ flat_map number_bytes (used_words words)

-- what an audit reports of a dump: the number of words of the table, the number of used words, and
-- the pairs that they hold
pub record DumpContent : Type 0 where
  pub words : ℕ
  pub used : ℕ
  pub pairs : List Pair

-- the bytes are the dump of a table whose words are lawful at rest, and this is the audit's report
pub record IsLawfulDump (bytes : List ℕ) (told : DumpContent) : Type 0 where
  pub table : List ℕ
  pub fit : (place : ℕ) → word_at table place < 2 ^ 64
  pub lawful : AreLawful table told.pairs
  pub dumped : bytes ≡ dump_of table
  pub words : told.words ≡ length table
  pub used : told.used ≡ word_at table next_place

-- the words are lawful at rest, with some pairs
abbrev pub AreLawfulWords : List ℕ → Type 0
AreLawfulWords words = (pairs : List Pair) × AreLawful words pairs
