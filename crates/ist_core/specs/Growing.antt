-- How a published row may change: it never vanishes, and only a few of its fields change, each in
-- one direction.
use Rattle.std.specs.Prelude.{◌≡◌, ℕ, ◌≤◌, ◌≢◌, length, Some}
use Rattle.ist_core.specs.declared.states.LeafRow.{LeafRow}
use Rattle.ist_core.specs.declared.states.InnerRow.{InnerRow}
use Rattle.ist_core.specs.declared.states.ChangeRow.{ChangeRow}
use Rattle.ist_core.specs.declared.states.RebuildRow.{RebuildRow}
use Rattle.ist_core.specs.References.{unset_word}
use Rattle.ist_core.specs.Statuses.{open_word, marked_word, finished_word, undecided}
use Rattle.ist_core.specs.Pieces.{Pieces, Piece, Leaf, Inner, Change, Rebuild}

-- a status goes from open to marked, and from either to finished with some keys; a finished status
-- stays
pub data StatusGoesOn (old new : ℕ) : Type 0 where
  status_stays : new ≡ old → StatusGoesOn old new
  is_marked : old ≡ open_word → new ≡ marked_word → StatusGoesOn old new
  is_finished : (k : ℕ) → old ≡ marked_word → new ≡ finished_word k → StatusGoesOn old new
  is_closed : (k : ℕ) → old ≡ open_word → new ≡ finished_word k → StatusGoesOn old new

-- an inner row may change its status, its count, which never falls, and the words in its slots
pub record InnerGrows (old new : InnerRow) : Type 0 where
  pub status : StatusGoesOn old.status new.status
  pub count : old.count ≤ new.count
  pub degree : new.degree ≡ old.degree
  pub size : new.size ≡ old.size
  pub keys : new.keys ≡ old.keys
  pub slots : length new.slots ≡ length old.slots

-- a change is decided once, and nothing else of it changes
pub record ChangeGrows (old new : ChangeRow) : Type 0 where
  pub decided : old.decision ≢ undecided → new.decision ≡ old.decision
  pub others : record new { decision = undecided } ≡ record old { decision = undecided }

-- a rebuild gets its root once, and its draw word never falls
pub record RebuildGrows (old new : RebuildRow) : Type 0 where
  pub target : new.target ≡ old.target
  pub parent : new.parent ≡ old.parent
  pub index : new.index ≡ old.index
  pub rooted : old.root ≢ unset_word → new.root ≡ old.root
  pub draw : old.draw ≤ new.draw

-- what the first row may become: a row of the same kind; a leaf stays as it is
pub data Grows : Piece → Piece → Type 0 where
  leaf_stays : {r : LeafRow} → Grows (Leaf r) (Leaf r)
  inner_grows : {old new : InnerRow} → InnerGrows old new → Grows (Inner old) (Inner new)
  change_grows : {old new : ChangeRow} → ChangeGrows old new → Grows (Change old) (Change new)
  rebuild_grows : {old new : RebuildRow} → RebuildGrows old new → Grows (Rebuild old) (Rebuild new)

-- each row of the first map is in the second, possibly grown
abbrev pub AllGrow : Pieces → Pieces → Type 0
AllGrow ps qs = (base : ℕ) (p : Piece) → ps base ≡ Some p → (q : Piece) × (qs base ≡ Some q) × Grows p q
