-- The table and a seat, as contracts see them.
use Rattle.std.specs.Prelude.{◌≡◌, ℕ, List}
use Rattle.atomic_table.specs.Seated.{TableId}
use Rattle.ist_core.specs.declared.pairs.Pair.{Pair}
use Rattle.ist_rule.specs.declared.view.TableName.{TableName}
use Rattle.ist_rule.specs.declared.view.View.{View}

-- which table it is
abbrev pub name_of : TableId → TableName
name_of id =
    record {
      words = id.words;
      slots = id.slots;
      views_name = id.views_name;
      atom = id.atom;
      block = id.block;
      offset = id.offset;
      slot_names = id.slot_names;
    }

-- a table: which one it is, and its start pairs
pub record TableFace : Type 0 where
  pub table : TableName
  pub start : List Pair

-- a seat: what it knows
pub record TokenFace : Type 0 where
  pub view : View

-- it is said of what a seat has seen, which is of this table
abbrev pub IsViewAt : TableFace → (View → Type 0) → View → Type 0
IsViewAt table Is v = Is v × (v.table ≡ table.table)

-- how many words the table has
abbrev pub word_count_of : TableFace → ℕ
word_count_of t = t.table.words
