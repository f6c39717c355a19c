-- What the calls of this crate require, and what they promise.
use Rattle.std.specs.Prelude.{◌≡◌, ◌≢◌, ℕ, ◌-◌, ◌<◌, ◌≤◌, nat_lt, if◌then◌else◌, List, slice_get, Some}
use Rattle.std.specs.List.{sum}
use Rattle.ist_core.specs.declared.events.Event.{Event}
use Rattle.ist_core.specs.declared.events.Event.TheVariants.{Reserve, Root, Draw, Place, Lose}
use Rattle.ist_core.specs.declared.lists.Row.{Row}
use Rattle.ist_core.specs.declared.ports.Full.{Full}
use Rattle.ist_core.specs.declared.states.RebuildRow.{RebuildRow}
use Rattle.ist_core.specs.Arithmetic.{degree, part_len, part_start}
use Rattle.ist_core.specs.Ideals.{IsIdeal}
use Rattle.ist_core.specs.Leaves.{PlacedLeaf}
use Rattle.ist_core.specs.Pieces.{Rebuild, with_inners}
use Rattle.ist_core.specs.Rebuilding.{IsStarted, IsFinishedWith, IsBuilt}
use Rattle.ist_core.specs.References.{Ref, LeafAt, ref_of, unset_word}
use Rattle.ist_core.specs.RowLayout.{inner_words}
use Rattle.ist_core.specs.Shapes.{shape, share_from}
use Rattle.ist_core.specs.Snapshots.{Snapshot, bases_of}
use Rattle.ist_rule.specs.declared.view.View.{View}
use Rattle.ist_rule.specs.Going.{WentOn}
use Rattle.ist_rule.specs.Learning.{now}
use Rattle.ist_rows.specs.declared.callers.Caller.{Caller}
use Rattle.ist_rows.specs.Shortage.{RanShort}
use Rattle.ist_build.specs.Laying.{OwnsRows, IsForNode}

-- ---- what is required

-- the target is finished, with at least this many keys
pub record HasKeys (t : Snapshot) (target least : ℕ) : Type 0 where
  pub k : ℕ
  pub finished : IsFinishedWith t target k
  pub enough : least ≤ k

-- the `len` leaves from number `start` on are a whole target with few keys, or a part of one with
-- many
pub data IsShare (k start len : ℕ) : Type 0 where
  share_whole : k < share_from → start ≡ 0 → len ≡ k → IsShare k start len
  share_part : (j : ℕ) → share_from ≤ k → j < degree k → start ≡ part_start k j → len ≡ part_len k j
      → IsShare k start len

-- the target of a started rebuild is finished, and these leaves are a share of it that may be built
pub record MayBuild (t : Snapshot) (target start len : ℕ) : Type 0 where
  pub rebuild : ℕ
  pub row : RebuildRow
  pub published : t.pieces rebuild ≡ Some (Rebuild row)
  pub target_is : row.target ≡ target
  pub started : IsStarted t rebuild
  pub k : ℕ
  pub finished : IsFinishedWith t target k
  pub share : IsShare k start len

-- the rebuild is started, and its target is finished with k keys
pub record IsTold (t : Snapshot) (rebuild k : ℕ) : Type 0 where
  pub row : RebuildRow
  pub published : t.pieces rebuild ≡ Some (Rebuild row)
  pub started : IsStarted t rebuild
  pub finished : IsFinishedWith t row.target k

-- the rebuild is started, and its target is finished
pub record IsBuildable (t : Snapshot) (rebuild : ℕ) : Type 0 where
  pub k : ℕ
  pub told : IsTold t rebuild k

-- the rebuild has a root
pub record IsRooted (t : Snapshot) (rebuild : ℕ) : Type 0 where
  pub row : RebuildRow
  pub published : t.pieces rebuild ≡ Some (Rebuild row)
  pub set : row.root ≢ unset_word

-- ---- what the caller does

-- the event belongs to a build: a reservation, a draw, or what puts the build in place or loses it
abbrev pub Builds : Event → Type 0
Builds (Reserve caller base size) = Unit {0}
Builds (Root caller rebuild word rows) = Unit {0}
Builds (Draw caller rebuild part) = Unit {0}
Builds (Place caller rebuild i word rows) = Unit {0}
Builds (Lose caller bases) = Unit {0}
Builds _ = ⊥

-- ---- how many words it takes

-- the words of the rows of a root over k keys: of the whole ideal tree if they are few, and else of
-- its top row only
abbrev pub root_words : ℕ → ℕ
root_words k = if nat_lt k share_from then sum (shape k) else inner_words (degree k)

-- the words of all other rows of the ideal tree of k keys
abbrev pub parts_words : ℕ → ℕ
parts_words k = sum (shape k) - root_words k

-- ---- what is promised

-- the reference names the leaf number i
pub record IsLeafAmong (leaves : List PlacedLeaf) (i : ℕ) (ref : Ref) : Type 0 where
  pub leaf : PlacedLeaf
  pub there : slice_get leaves i ≡ Some leaf
  pub ref_is : ref ≡ LeafAt leaf.base

-- the reference is the ideal subtree over these leaves, in rows that the caller took since its
-- earlier state: above each row that was published then
pub record IsPartLaid (old new : Caller) (ref : Ref) (leaves : List PlacedLeaf) : Type 0 where
  pub rows : List Row
  pub owns : OwnsRows new.token.view new.number (now old.token.view).next rows
  pub ideal : (above : ℕ) → above < (now old.token.view).next
      → IsIdeal (with_inners (now new.token.view).pieces rows) ref leaves above (bases_of rows)

-- the rebuild has this root
pub record HasRootAs (t : Snapshot) (rebuild : ℕ) (ref : Ref) : Type 0 where
  pub row : RebuildRow
  pub published : t.pieces rebuild ≡ Some (Rebuild row)
  pub root_is : ref_of row.root ≡ Some ref
  pub set : row.root ≢ unset_word

-- the rebuild has a root, and no slot of it is Unset
pub record IsBuiltOut (t : Snapshot) (rebuild : ℕ) : Type 0 where
  pub row : RebuildRow
  pub published : t.pieces rebuild ≡ Some (Rebuild row)
  pub built : IsBuilt t row.root

-- this many words are asked for, for a node over no more keys than the finished target of the
-- rebuild has
pub record IsForBuild (t : Snapshot) (rebuild asked : ℕ) : Type 0 where
  pub k : ℕ
  pub told : IsTold t rebuild k
  pub node : IsForNode k asked

-- too few words are left for such a node; until then the caller made only steps of building
abbrev pub RebuildIsShort : View → ℕ → ℕ → Full → View → Type 0
RebuildIsShort v rebuild words full w =
    RanShort (WentOn Builds) (IsForBuild (now v) rebuild) v words full w
