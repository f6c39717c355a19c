-- What reads by a handle do to the pass that the handle holds, and what they write.
use Rattle.std.specs.Prelude.{take, ◌≡◌, ℕ, ◌+◌, ◌≤◌, ◌⊎◌, Bool, true, false, List, length, Option}
use Rattle.std.specs.Arc.{arc_value}
use Rattle.ist_core.specs.declared.pairs.Pair.{Pair}
use Rattle.ist_tree.specs.Faces.{PassFace}
use Rattle.ist_tree.specs.RealTime.{StepsIn}
use Rattle.ist_tree.specs.Room.{HasLeft, HasMadeNone}
use Rattle.ist_live.specs.Reading.{HasOnlyRead}
use Rattle.ist_live.specs.Ends.{IsNextUp, IsNextDown}
use Rattle.ist_live.specs.Lists.{AreInTurn, AreLive}
use Rattle.ist_live.specs.Pieces.{IsPiece}
use Rattle.ist_handles.specs.declared.pieces.Piece.{Piece}
use Rattle.ist_handles.specs.declared.held.Held.{Held}
use Rattle.ist_handles.specs.declared.held.Held.TheVariants as of
use Rattle.ist_handles.specs.declared.passes.TreePass.{TreePass}
use Rattle.ist_handles.specs.Pairs.{Wrote, next_key, written}
use Rattle.ist_handles.specs.Results.{done, memory, misuse}
use Rattle.ist_c.specs.Kinds.{IsNoPass}

-- the pass is of the same tree, and made no call: it has only read
pub record ReadsInTree (p q : TreePass) : Type 0 where
  pub same_tree : arc_value q.tree ≡ arc_value p.tree
  pub read : HasOnlyRead p.pass q.pass

-- ---- the next pair

-- towards greater keys
abbrev pub up : Bool
up = true

-- towards lesser keys
abbrev pub down : Bool
down = false

-- the pair is the next one in this direction, from this key on
abbrev pub IsNextPair : Bool → PassFace → PassFace → ℕ → Option Pair → Type 0
IsNextPair true p q key pair = IsNextUp p q key pair
IsNextPair false p q key pair = IsNextDown p q (key + 1) pair

-- a handle of a pass holds this pass still, which read the next pair in this direction, and the entry
-- has it, or is as before if there is none; only a handle of something else is misused, and is as before
pub data ReadsBy : Bool → Held → Held → ℕ → ℕ → Pair → Pair → Type 0 where
  pass_reads : (way : Bool) (p q : TreePass) (key status : ℕ) (pair : Option Pair)
      (before after : Pair) → ReadsInTree p q → IsNextPair way p.pass q.pass key pair
      → Wrote pair status before after
      → ReadsBy way (of.Pass p) (of.Pass q) key status before after
  none_reads : (way : Bool) (held : Held) (key : ℕ) (entry : Pair) → IsNoPass held
      → ReadsBy way held held key misuse entry entry

-- ---- a range

-- the first entries have the pairs of a range from its first key up to the key to go on from
pub record EntriesHold (p q : TreePass) (first last : ℕ) (room : List Pair) (piece : Piece)
    : Type 0 where
  pub read : ReadsInTree p q
  pub within : piece.count ≤ length room
  pub pairs : IsPiece p.pass q.pass first last (next_key piece) (take piece.count room)

-- a handle of a pass holds this pass still, which read a range, or the first part of it; only without
-- room, or by a handle of something else, is it misuse, and the handle is as before
pub data ListsBy : Held → Held → ℕ → ℕ → ℕ → List Pair → List Pair → Piece → Piece → Type 0
  where
    pass_lists : (p q : TreePass) (first last : ℕ) (room after : List Pair) (before piece : Piece)
        → length after ≡ length room → EntriesHold p q first last after piece
        → ListsBy (of.Pass p) (of.Pass q) first last done room after before piece
    none_lists : (held : Held) (first last : ℕ) (room : List Pair) (piece : Piece)
        → (length room ≡ 0) ⊎ IsNoPass held → ListsBy held held first last misuse room room piece piece

-- ---- a range in one walk

-- the pass is of the same tree, and has only read: each key of a range had what the pairs found give it, at a
-- moment of its own, and time never goes back along the keys
pub record HasWalkedRange (p q : TreePass) (first last : ℕ) (found : List Pair) : Type 0 where
  pub read : ReadsInTree p q
  pub live : AreLive p.pass q.pass first last found
  pub in_turn : AreInTurn p.pass q.pass found

-- a handle of a pass holds this pass still, which listed a range: the room has the pairs, as many as there is
-- room for, and the count is that of all; without memory nothing is written. Only a handle of something
-- else is misused, and is as before
pub data ListsLive : Held → Held → ℕ → ℕ → ℕ → List Pair → List Pair → ℕ → ℕ → Type 0 where
  lists_live : (p q : TreePass) (first last : ℕ) (found : List Pair) (room : List Pair) (before : ℕ)
      → HasWalkedRange p q first last found
      → ListsLive (of.Pass p) (of.Pass q) first last done room (written found room) before (length found)
  lists_no_more : (p q : TreePass) (first last : ℕ) (room : List Pair) (count : ℕ) → ReadsInTree p q
      → ListsLive (of.Pass p) (of.Pass q) first last memory room room count count
  live_none : (held : Held) (first last : ℕ) (room : List Pair) (count : ℕ) → IsNoPass held
      → ListsLive held held first last misuse room room count count

-- ---- the words that are left

-- the pass is of the same tree, and made no call and no event; at its last step of the call this many words
-- of the tree were left
pub record HasCountedRoom (p q : TreePass) (words : ℕ) : Type 0 where
  pub read : ReadsInTree p q
  pub none : HasMadeNone p.pass q.pass
  pub step : StepsIn p.pass q.pass q.pass.seen
  pub left : HasLeft q.pass words

-- a handle of a pass holds this pass still, which counted the words that are left; only a handle of
-- something else is misused, and the handle and the number are as before
pub data CountsRoom : Held → Held → ℕ → ℕ → ℕ → Type 0 where
  pass_counts : (p q : TreePass) (before words : ℕ) → HasCountedRoom p q words
      → CountsRoom (of.Pass p) (of.Pass q) done before words
  none_counts : (held : Held) (words : ℕ) → IsNoPass held → CountsRoom held held misuse words words
