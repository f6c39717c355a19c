-- What taking a shot, reading it and dropping it do to what a handle holds.
use Rattle.std.specs.Prelude.{take, ◌≡◌, ◌⊎◌, ℕ, ◌≤◌, List, length}
use Rattle.std.specs.Arc.{arc_value}
use Rattle.ist_core.specs.declared.pairs.Pair.{Pair}
use Rattle.ist_core.specs.declared.ports.Full.{Full}
use Rattle.ist_tree.specs.Calls.{HasSeenMore}
use Rattle.ist_tree.specs.Freezing.{HasStartedNone}
use Rattle.ist_scan.specs.Room.{HadRoom, IsShotRefused}
use Rattle.ist_scan.specs.Shots.{HasTakenShot, HasOnlyLooked}
use Rattle.ist_handles.specs.declared.held.Held.{Held}
use Rattle.ist_handles.specs.declared.held.Held.TheVariants as of
use Rattle.ist_handles.specs.declared.passes.TreePass.{TreePass}
use Rattle.ist_handles.specs.declared.pieces.Piece.{Piece}
use Rattle.ist_handles.specs.declared.results.Shortage.{Shortage}
use Rattle.ist_handles.specs.Pairs.{next_key}
use Rattle.ist_handles.specs.Results.{done, full, misuse, full_of}
use Rattle.ist_handles.specs.ShotPieces.{ShotFace, IsShotPiece}
use Rattle.ist_c.specs.Kinds.{IsNoPass, IsNoShot}

-- ---- taking

-- the pass is of the same tree, and made no call; it took this shot, whose position isn't before what it
-- had seen, and at one moment of the call at least this many words were left
pub record HasShot (p : TreePass) (s : ShotFace) (words : ℕ) : Type 0 where
  pub same_tree : arc_value s.taker.tree ≡ arc_value p.tree
  pub seen : HasSeenMore p.pass s.taker.pass
  pub calls : s.taker.pass.calls ≡ p.pass.calls
  pub taken : HasTakenShot p.pass s.taker.pass s.shot
  pub room : HadRoom p.pass s.taker.pass words

-- the pass is of the same tree, made no call and started no rebuild: a shot was refused with these numbers
pub record HasNoShot (p q : TreePass) (words : ℕ) (numbers : Full) : Type 0 where
  pub same_tree : arc_value q.tree ≡ arc_value p.tree
  pub seen : HasSeenMore p.pass q.pass
  pub calls : q.pass.calls ≡ p.pass.calls
  pub cause : IsShotRefused p.pass q.pass words numbers
  pub unstarted : HasStartedNone p.pass q.pass

-- a handle of a pass holds this pass with a shot that it took, or was refused, and then holds the pass
-- still, and the numbers are there; only a handle of something else is misused, and is as before
pub data TakesShot : Held → Held → ℕ → ℕ → Shortage → Shortage → Type 0 where
  pass_takes : (p : TreePass) (s : ShotFace) (words : ℕ) (short : Shortage) → HasShot p s words
      → TakesShot (of.Pass p) (of.Shot s) words done short short
  shot_refused : (p q : TreePass) (words : ℕ) (before short : Shortage)
      → HasNoShot p q words (full_of short)
      → TakesShot (of.Pass p) (of.Pass q) words full before short
  none_takes : (held : Held) (words : ℕ) (short : Shortage) → IsNoPass held
      → TakesShot held held words misuse short short

-- ---- reading

-- by a handle of a shot the number of its pairs is written; only by a handle of something else nothing
-- is, which is misuse
pub data CountsShot : Held → ℕ → ℕ → ℕ → Type 0 where
  counts_shot : (s : ShotFace) (before : ℕ) → CountsShot (of.Shot s) done before s.shot.keys
  counts_no_shot : (held : Held) (keys : ℕ) → IsNoShot held → CountsShot held misuse keys keys

-- the shot is the same, its pass only looked, and the first entries have the pairs of the shot from the
-- first key of a range up to the key to go on from
pub record HasListedShot (s t : ShotFace) (first last : ℕ) (room : List Pair) (piece : Piece)
    : Type 0 where
  pub same_tree : arc_value t.taker.tree ≡ arc_value s.taker.tree
  pub same_shot : t.shot ≡ s.shot
  pub looked : HasOnlyLooked s.taker.pass t.taker.pass
  pub within : piece.count ≤ length room
  pub pairs : IsShotPiece s.taker.pass s.shot first last (next_key piece) (take piece.count room)

-- a handle of a shot holds it still, and a range of it was written, or the first part of it; only without
-- room, or by a handle of something else, is it misuse, and the handle is as before
pub data ListsShot : Held → Held → ℕ → ℕ → ℕ → List Pair → List Pair → Piece → Piece → Type 0
  where
    lists_shot : (s t : ShotFace) (first last : ℕ) (room after : List Pair) (before piece : Piece)
        → length after ≡ length room → HasListedShot s t first last after piece
        → ListsShot (of.Shot s) (of.Shot t) first last done room after before piece
    lists_no_shot : (held : Held) (first last : ℕ) (room : List Pair) (piece : Piece)
        → (length room ≡ 0) ⊎ IsNoShot held → ListsShot held held first last misuse room room piece piece

-- ---- dropping

-- a handle of a shot holds the pass that took it, as it was; only a handle of something else is misused,
-- and is as before
pub data DropsShot : Held → Held → ℕ → Type 0 where
  drops_shot : (s : ShotFace) → DropsShot (of.Shot s) (of.Pass s.taker) done
  drops_no_shot : (held : Held) → IsNoShot held → DropsShot held held misuse
