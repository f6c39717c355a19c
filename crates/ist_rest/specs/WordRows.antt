-- The rows of a table as they are read from its words only, and what a slot word reads as.
use Rattle.std.specs.Prelude.{ℕ, ◌+◌, ◌≤◌, ◌==◌, if◌then◌else◌, List, [], ◌∷◌, ◌++◌, get_or, slice_range, Option, Some}
use Rattle.ist_core.specs.RowLayout.{next_place, first_row, change_words, rebuild_words, leaf_value_offset, inner_degree_offset, inner_size_offset, change_from_offset, change_to_offset}
use Rattle.ist_core.specs.References.{Ref, InnerAt, ChangeAt, RebuildAt, ref_of}
use Rattle.ist_core.specs.Statuses.{decided_yes}

-- the word at a place
abbrev pub word_at : List ℕ → ℕ → ℕ
word_at words place = get_or words place 0

-- ---- a leaf

-- the key of a leaf
abbrev pub leaf_key : List ℕ → ℕ → ℕ
leaf_key words base = word_at words base

-- the value of a leaf
abbrev pub leaf_value : List ℕ → ℕ → ℕ
leaf_value words base = word_at words (base + leaf_value_offset)

-- ---- an inner row

-- how many slots an inner row has
abbrev pub row_degree : List ℕ → ℕ → ℕ
row_degree words base = word_at words (base + inner_degree_offset)

-- over how many keys an inner row was built
abbrev pub row_size : List ℕ → ℕ → ℕ
row_size words base = word_at words (base + inner_size_offset)

-- the keys of an inner row, after its four fields
abbrev pub row_keys : List ℕ → ℕ → List ℕ
row_keys words base = slice_range words (base + 4) (base + 3 + row_degree words base)

-- the words of its slots, after the keys
abbrev pub row_slots : List ℕ → ℕ → List ℕ
row_slots words base =
    slice_range words (base + 3 + row_degree words base) (base + 3 + row_degree words base +
    row_degree words base)

-- ---- what a slot word reads as

-- the word that a change leaves: `to` after yes, `from` otherwise
abbrev pub side_in : List ℕ → ℕ → ℕ
side_in words base =
    if word_at words base == decided_yes then word_at words (base + change_to_offset)
    else word_at words (base + change_from_offset)

-- what a reference reads as after changes
abbrev pub past_change_in : List ℕ → Option Ref → Option Ref
past_change_in words (Some (ChangeAt base)) = ref_of (side_in words base)
past_change_in words ref = ref

-- what a reference reads as after rebuilds
abbrev pub past_rebuild_in : List ℕ → Option Ref → Option Ref
past_rebuild_in words (Some (RebuildAt base)) = Some (InnerAt (word_at words base))
past_rebuild_in words ref = ref

-- what a word reads as: a change as the side that its decision leaves, and a rebuild, also after a
-- change, as its target
abbrev pub reads_in : List ℕ → ℕ → Option Ref
reads_in words word = past_rebuild_in words (past_change_in words (ref_of word))

-- ---- which rows are read

-- consecutive words from the base on
pub record Span : Type 0 where
  pub base : ℕ
  pub size : ℕ

-- the words lie after the fixed words and below the first free one
pub record IsWithinUsed (words : List ℕ) (span : Span) : Type 0 where
  pub after_fixed : first_row ≤ span.base
  pub below_next : span.base + span.size ≤ word_at words next_place

-- the rebuild that a reference leads through
abbrev pub rebuild_on : Option Ref → List Span
rebuild_on (Some (RebuildAt base)) = record { base = base; size = rebuild_words } ∷ []
rebuild_on _ = []

-- the change that a reference leads through
abbrev pub change_on : Option Ref → List Span
change_on (Some (ChangeAt base)) = record { base = base; size = change_words } ∷ []
change_on _ = []

-- the change and the rebuild that a reference leads through
abbrev pub rows_on : List ℕ → Option Ref → List Span
rows_on words ref = change_on ref ++ rebuild_on (past_change_in words ref)
