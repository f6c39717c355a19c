-- What the word in a slot of a node names, and the word for it.
use Rattle.std.specs.Prelude.{ℕ, ◌+◌, ◌*◌, ◌/◌, ◌%◌, ◌<◌, ◌≤◌, ◌==◌, ◌&&◌, nat_le, nat_lt, if◌then◌else◌, ⊤, Option, Some, None}
use Rattle.ist_core.specs.RowLayout.{place_limit, first_row}

-- what a slot names: nothing, a part of a shared root that isn't built yet, or a row by its base
pub data Ref : Type 0 where
  Empty : Ref
  Unset : Ref
  LeafAt : ℕ → Ref
  InnerAt : ℕ → Ref
  ChangeAt : ℕ → Ref
  RebuildAt : ℕ → Ref

-- the word of `Empty`
abbrev pub empty_word : ℕ
empty_word = 0

-- the word of `Unset`
abbrev pub unset_word : ℕ
unset_word = 7

-- the word of a row is its base times this number, plus its tag
abbrev pub tag_count : ℕ
tag_count = 8

-- the tag of a leaf
abbrev pub leaf_tag : ℕ
leaf_tag = 1

-- the tag of an inner row
abbrev pub inner_tag : ℕ
inner_tag = 2

-- the tag of a change
abbrev pub change_tag : ℕ
change_tag = 3

-- the tag of a rebuild
abbrev pub rebuild_tag : ℕ
rebuild_tag = 4

-- the word of a reference
abbrev pub word_of : Ref → ℕ
word_of Empty = empty_word
word_of Unset = unset_word
word_of (LeafAt base) = base * tag_count + leaf_tag
word_of (InnerAt base) = base * tag_count + inner_tag
word_of (ChangeAt base) = base * tag_count + change_tag
word_of (RebuildAt base) = base * tag_count + rebuild_tag

-- a base at which a row can lie: after the fixed words, and within the largest table
pub record IsGoodBase (base : ℕ) : Type 0 where
  pub after_fixed : first_row ≤ base
  pub below_limit : base < place_limit

-- the base of the reference, if it has one, is good
abbrev pub IsGoodRef : Ref → Type 0
IsGoodRef Empty = ⊤
IsGoodRef Unset = ⊤
IsGoodRef (LeafAt base) = IsGoodBase base
IsGoodRef (InnerAt base) = IsGoodBase base
IsGoodRef (ChangeAt base) = IsGoodBase base
IsGoodRef (RebuildAt base) = IsGoodBase base

-- the row with this tag and this base
abbrev pub row_tagged : ℕ → ℕ → Option Ref
row_tagged tag base =
    if tag == leaf_tag then Some (LeafAt base)
    else (if tag == inner_tag then Some (InnerAt base)
    else (if tag == change_tag then Some (ChangeAt base)
    else (if tag == rebuild_tag then Some (RebuildAt base)
    else None)))

-- the same, for good bases only
abbrev pub good_row_tagged : ℕ → ℕ → Option Ref
good_row_tagged tag base =
    if nat_le first_row base && nat_lt base place_limit then row_tagged tag base else None

-- the good reference with this word, or none if there is no such reference
unfoldable pub ref_of : ℕ → Option Ref
ref_of word =
    if word == empty_word then Some Empty
    else (if word == unset_word then Some Unset
    else good_row_tagged (word % tag_count) (word / tag_count))
