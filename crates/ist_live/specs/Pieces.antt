-- The pairs of an interval in pieces.
use Rattle.std.specs.Prelude.{ℕ, ◌-◌, ◌<◌, ◌≤◌, List, Option, Some, None, IfSome}
use Rattle.ist_core.specs.declared.pairs.Pair.{Pair}
use Rattle.ist_tree.specs.Faces.{PassFace}
use Rattle.ist_live.specs.Lists.{AreInTurn, AreLive}

-- the last key of a piece: the one before the next piece, or the last key of the interval
abbrev pub end_of : Option ℕ → ℕ → ℕ
end_of (Some key) last = key - 1
end_of None last = last

-- the pairs are those of the interval from its first key up to the next piece: the pass read them
-- upwards, each key at a position of its own
pub record IsPiece (p q : PassFace) (first last : ℕ) (next : Option ℕ) (pairs : List Pair)
    : Type 0 where
  pub live : AreLive p q first (end_of next last) pairs
  pub in_turn : AreInTurn p q pairs
  pub goes_on : IfSome next (λ key. (first < key) × (key ≤ last))
