-- Published rows: what each is, which words it has, and how the words in an event are read as a
-- row.
use Rattle.std.specs.Prelude.{ℕ, ◌+◌, ◌-◌, ◌==◌, if◌then◌else◌, List, [], ◌∷◌, ◌++◌, length, take, drop, slice_set, Option, Some, None, option_map}
use Rattle.ist_core.specs.declared.states.LeafRow.{LeafRow}
use Rattle.ist_core.specs.declared.states.InnerRow.{InnerRow}
use Rattle.ist_core.specs.declared.states.ChangeRow.{ChangeRow}
use Rattle.ist_core.specs.declared.states.RebuildRow.{RebuildRow}
use Rattle.ist_core.specs.declared.lists.Row.{Row}

-- a published row: a leaf, an inner node, a change, or a rebuild
pub data Piece : Type 0 where
  Leaf : LeafRow → Piece
  Inner : InnerRow → Piece
  Change : ChangeRow → Piece
  Rebuild : RebuildRow → Piece

-- the published rows, each by its base
abbrev pub Pieces : Type 0
Pieces = ℕ → Option Piece

-- ---- rows as words

-- the words of a row, from its base on
abbrev pub words_of : Piece → List ℕ
words_of (Leaf r) = r.key ∷ r.value ∷ []
words_of (Inner r) = r.status ∷ r.count ∷ r.degree ∷ r.size ∷ (r.keys ++ r.slots)
words_of (Change r) = r.decision ∷ r.kind ∷ r.node ∷ r.index ∷ r.from ∷ r.to ∷ r.owner ∷ r.key ∷ r.value ∷ []
words_of (Rebuild r) = r.target ∷ r.parent ∷ r.index ∷ r.root ∷ r.draw ∷ []

-- how many words a row has
abbrev pub size_of : Piece → ℕ
size_of p = length (words_of p)

-- a row with its base, in the form that an event publishes
abbrev pub row_at : ℕ → Piece → Row
row_at base p = record { base = base; words = words_of p }

-- two words read as a leaf
abbrev pub leaf_of : List ℕ → Option Piece
leaf_of (key ∷ value ∷ []) = Some (Leaf record { key = key; value = value })
leaf_of _ = None

-- words read as an inner row: four fields, then degree - 1 keys, then the slots
abbrev pub inner_of : List ℕ → Option Piece
inner_of (status ∷ count ∷ degree ∷ size ∷ rest) =
    Some (Inner record {
      status = status;
      count = count;
      degree = degree;
      size = size;
      keys = take (degree - 1) rest;
      slots = drop (degree - 1) rest;
    })
inner_of _ = None

-- nine words read as a change
abbrev pub change_of : List ℕ → Option ChangeRow
change_of (decision ∷ kind ∷ node ∷ index ∷ from ∷ to ∷ owner ∷ key ∷ value ∷ []) =
    Some record {
      decision = decision;
      kind = kind;
      node = node;
      index = index;
      from = from;
      to = to;
      owner = owner;
      key = key;
      value = value;
    }
change_of _ = None

-- five words read as a rebuild
abbrev pub rebuild_of : List ℕ → Option Piece
rebuild_of (target ∷ parent ∷ index ∷ root ∷ draw ∷ []) =
    Some (Rebuild record { target = target; parent = parent; index = index; root = root; draw = draw })
rebuild_of _ = None

-- ---- rows by kind

-- the leaf, if the row is a leaf
abbrev pub as_leaf : Option Piece → Option LeafRow
as_leaf (Some (Leaf r)) = Some r
as_leaf _ = None

-- the inner row, if the row is an inner row
abbrev pub as_inner : Option Piece → Option InnerRow
as_inner (Some (Inner r)) = Some r
as_inner _ = None

-- the change, if the row is a change
abbrev pub as_change : Option Piece → Option ChangeRow
as_change (Some (Change r)) = Some r
as_change _ = None

-- the rebuild, if the row is a rebuild
abbrev pub as_rebuild : Option Piece → Option RebuildRow
as_rebuild (Some (Rebuild r)) = Some r
as_rebuild _ = None

-- ---- rows that are published or changed

-- the rows with this one set at the base, if one is given
abbrev pub with_row : Pieces → ℕ → Option Piece → Pieces
with_row ps base None = ps
with_row ps base (Some p) = λ b. if b == base then Some p else ps b

-- the rows with f applied to the one at the base, if there is one
abbrev pub changed_at : Pieces → ℕ → (Piece → Piece) → Pieces
changed_at ps base f = λ b. if b == base then option_map f (ps b) else ps b

-- the rows, with these inner rows also published
abbrev pub with_inners : Pieces → List Row → Pieces
with_inners ps [] = ps
with_inners ps (row ∷ rows) = with_row (with_inners ps rows) row.base (inner_of row.words)

-- an inner row with a word in slot i
abbrev pub with_slot : ℕ → ℕ → Piece → Piece
with_slot i word (Inner r) = Inner record r { slots = slice_set r.slots i word }
with_slot i word p = p

-- an inner row with a status
abbrev pub with_status : ℕ → Piece → Piece
with_status status (Inner r) = Inner record r { status = status }
with_status status p = p

-- an inner row at which one more change was counted
abbrev pub counted : Piece → Piece
counted (Inner r) = Inner record r { count = r.count + 1 }
counted p = p

-- a change with a decision
abbrev pub with_decision : ℕ → Piece → Piece
with_decision decision (Change r) = Change record r { decision = decision }
with_decision decision p = p

-- a rebuild with the word of its root
abbrev pub with_root : ℕ → Piece → Piece
with_root word (Rebuild r) = Rebuild record r { root = word }
with_root word p = p

-- a rebuild with one more part drawn
abbrev pub drawn : Piece → Piece
drawn (Rebuild r) = Rebuild record r { draw = r.draw + 1 }
drawn p = p
