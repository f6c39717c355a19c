-- How many words the slots of a shared root still take that are Unset.
use Rattle.std.specs.Prelude.{ℕ, zero, suc, ◌+◌, ◌==◌, not, Bool, false, if◌then◌else◌, slice_get, Option, Some, None}
use Rattle.std.specs.List.{sum}
use Rattle.ist_core.specs.Arithmetic.{degree, part_len}
use Rattle.ist_core.specs.Pieces.{Piece, Inner}
use Rattle.ist_core.specs.References.{unset_word}
use Rattle.ist_core.specs.Shapes.{shape}
use Rattle.ist_core.specs.Snapshots.{Snapshot}
use Rattle.ist_rule.specs.Learning.{now}
use Rattle.ist_rows.specs.declared.callers.Caller.{Caller}
use Rattle.ist_build.specs.declared.shared.SharedRoot.{SharedRoot}

-- is there a word, and isn't it Unset?
abbrev pub word_is_set : Option ℕ → Bool
word_is_set (Some word) = not (word == unset_word)
word_is_set None = false

-- does slot i of the row hold a word that isn't Unset?
abbrev pub slot_is_set : Option Piece → ℕ → Bool
slot_is_set (Some (Inner row)) i = word_is_set (slice_get row.slots i)
slot_is_set _ i = false

-- the words of the rows of those of the first j parts of k keys whose slots aren't set
abbrev pub words_left : (ℕ → Bool) → ℕ → ℕ → ℕ
words_left set k zero = 0
words_left set k (suc j) =
    words_left set k j + (if set j then 0 else sum (shape (part_len k j)))

-- the words of the rows of all parts of the shared root whose slots aren't set in the state
abbrev pub left_in : Snapshot → SharedRoot → ℕ
left_in t s = words_left (slot_is_set (t.pieces s.root)) s.keys (degree s.keys)

-- the same, in what the caller has seen
abbrev pub left_for : Caller → SharedRoot → ℕ
left_for who s = left_in (now who.token.view) s
