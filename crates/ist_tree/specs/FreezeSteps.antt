-- What the functions that freeze a tree promise each other: what it meets and what it results in.
use Rattle.std.specs.Prelude.{◌≡◌, ◌≢◌, ℕ, ◌+◌, ◌≤◌, List, slice_get, Option, Some, None, IfSome}
use Rattle.std.specs.List.{sum}
use Rattle.ist_core.specs.declared.ports.Full.{Full}
use Rattle.ist_core.specs.declared.states.RebuildRow.{RebuildRow}
use Rattle.ist_core.specs.Lawful.{state_of}
use Rattle.ist_core.specs.Leaves.{HasLeaves, PlacedLeaf}
use Rattle.ist_core.specs.Links.{IsChild}
use Rattle.ist_core.specs.Logs.{Log, GoesOn}
use Rattle.ist_core.specs.Marking.{HasTarget}
use Rattle.ist_core.specs.Pieces.{Rebuild}
use Rattle.ist_core.specs.Rebuilding.{IsFinishedWith, IsReplaced, IsStarted}
use Rattle.ist_core.specs.References.{InnerAt, Ref}
use Rattle.ist_core.specs.RowLayout.{anchor, change_words}
use Rattle.ist_core.specs.Shapes.{shape}
use Rattle.ist_core.specs.Snapshots.{Snapshot}
use Rattle.ist_layout.specs.declared.references.Ref.TheVariants.{Inner}
use Rattle.ist_layout.specs.Meanings.{ref_meant}
use Rattle.ist_rule.specs.declared.view.View.{View}
use Rattle.ist_rule.specs.Learning.{now}
use Rattle.ist_rows.specs.declared.callers.Caller.{Caller}
use Rattle.ist_rebuild.specs.Helping.{IsAskedFor}
use Rattle.ist_rebuild.specs.Lacking.{LacksNow}
use Rattle.ist_rebuild.specs.Starting.{IsForStart, MayStart, StartsDoneBut, StartsDoneSince, StartsNone}
use Rattle.ist_rebuild.specs.Needs.{TakesNeeded, needed}
use Rattle.ist_tree.specs.declared.freezing.Frozen.{Frozen}
use Rattle.ist_tree.specs.declared.freezing.FreezeOutcome.{FreezeOutcome}
use Rattle.ist_tree.specs.declared.freezing.Site.{Site}
use Rattle.ist_tree.specs.declared.freezing.Site.TheVariants.{Still, Rebuilt}
use Rattle.ist_tree.specs.Freezing.{HeldInnerRow, WasFrozen, words_of_freeze}
use Rattle.ist_tree.specs.Working.{Rebuilds, KeepsDone}
use Rattle.ist_rows.specs.Going.{StaysReady}
use Rattle.ist_rows.specs.Taken.{HasRunOut, HasTakenFew}
use Rattle.ist_rows.specs.Shortage.{LeavesTooFew}

-- ---- what is below the anchor

-- the rebuild is one below the anchor
pub record IsBelowAnchor (t : Snapshot) (rebuild : ℕ) : Type 0 where
  pub row : RebuildRow
  pub published : t.pieces rebuild ≡ Some (Rebuild row)
  pub parent_is : row.parent ≡ anchor

-- the rebuild is a started one of this target, below the anchor
pub record IsRebuildOf (t : Snapshot) (rebuild target : ℕ) : Type 0 where
  pub started : IsStarted t rebuild
  pub target_is : HasTarget t rebuild target
  pub below : IsBelowAnchor t rebuild

-- the root of the frozen tree is no inner row
abbrev pub HasNoRow : Frozen → Type 0
HasNoRow frozen = (row : ℕ) → ref_meant frozen.root ≢ InnerAt row

-- the row was the anchor's child after some log between these
pub record WasTop (v : View) (log : Log) (target : ℕ) : Type 0 where
  pub at : Log
  pub since : GoesOn v.log at
  pub until : GoesOn at log
  pub child : IsChild (state_of v.start v.words at) anchor 0 target

-- an inner row is the anchor's child, and a rebuild of it may be started
pub record IsAnchorsRow (v : View) (target : ℕ) : Type 0 where
  pub top : WasTop v v.log target
  pub may_start : MayStart v anchor 0 target
  pub held : HeldInnerRow v.start v.words v.log v.log

-- a started rebuild is below the anchor, and its target is the anchor's child
pub record IsTopRebuild (v : View) (rebuild : ℕ) : Type 0 where
  pub started : IsStarted (now v) rebuild
  pub below : IsBelowAnchor (now v) rebuild
  pub top : (target : ℕ) → HasTarget (now v) rebuild target → WasTop v v.log target

-- what a look at the anchor's slot found: a tree that is frozen, or a rebuild of what was there
abbrev pub IsSite : View → View → Site → Type 0
IsSite v w (Still frozen) = WasFrozen v.start v.words v.log w.log frozen × HasNoRow frozen
IsSite v w (Rebuilt rebuild target) = IsRebuildOf (now w) rebuild target × WasTop v w.log target

-- if all starts of the caller since a state were done, they still are, except the start of this
-- rebuild, if one is named
abbrev pub KeepsDoneBut : Caller → Caller → Option ℕ → Type 0
KeepsDoneBut old new None = KeepsDone old new
KeepsDoneBut old new (Some rebuild) =
    (first : Snapshot) → StartsDoneSince first (now old.token.view) old.number
    → StartsDoneBut first (now new.token.view) old.number rebuild

-- the caller went on by steps of rebuilding, kept its starts done, started no rebuild, and took no
-- words but for rows of a start that it still holds
pub record GoesIdle (old new : Caller) : Type 0 where
  pub on : StaysReady Rebuilds old new
  pub done : KeepsDone old new
  pub none : StartsNone (now old.token.view) (now new.token.view) old.number
  pub few : TakesNeeded old new

-- the rebuild to help, if there is one
abbrev pub rebuild_in : Site → Option ℕ
rebuild_in (Still frozen) = None
rebuild_in (Rebuilt rebuild target) = Some rebuild

-- the caller has met this below the anchor
pub record HasMet (old new : Caller) (site : Site) : Type 0 where
  pub on : StaysReady Rebuilds old new
  pub is : IsSite old.token.view new.token.view site
  pub done : KeepsDoneBut old new (rebuild_in site)
  pub few : HasTakenFew (needed old) 0 old new

-- it has met this, or nothing yet
abbrev pub MayHaveMet : Caller → Caller → Option Site → Type 0
MayHaveMet old new (Some site) = HasMet old new site
MayHaveMet old new None = GoesIdle old new

-- the caller has started this rebuild of the target, or none
abbrev pub HasStarted : Caller → Caller → ℕ → Option ℕ → Type 0
HasStarted old new target (Some rebuild) = StaysReady Rebuilds old new
    × IsRebuildOf (now new.token.view) rebuild target × KeepsDoneBut old new (Some rebuild)
    × HasTakenFew (needed old) 0 old new
HasStarted old new target None = GoesIdle old new

-- the caller as if it had begun this many searches
abbrev pub counted_as : Caller → ℕ → Caller
counted_as who n =
    record who { token = record who.token { view = record who.token.view { searches = n } } }

-- ---- what it takes

-- the caller took at most n words; if there is a refusal, too few were left for that
abbrev pub HasTakenFewUnless : Option Full → ℕ → Caller → Caller → Type 0
HasTakenFewUnless None n old new = HasTakenFew n 0 old new
HasTakenFewUnless (Some full) n old new = HasRunOut n old new

-- ---- what it results in

-- this many words were asked for, for a row of a start that the caller lacks and needs
pub record IsForNeeded (who : Caller) (asked : ℕ) : Type 0 where
  pub start : IsForStart asked
  pub lacks : LacksNow who.token.view asked
  pub needs : asked ≤ needed who

-- too few words were left for such a row, to rebuild an inner row that the anchor's slot held; the
-- caller has started no rebuild
pub record IsFreezeStopped (old new : Caller) (words : ℕ) (full : Full) : Type 0 where
  pub idle : GoesIdle old new
  pub left : LeavesTooFew (IsForNeeded new) new.token.view.start words new.token.view.log full
  pub held : let v = old.token.view in HeldInnerRow v.start v.words v.log new.token.view.log

-- too few words were left to help the rebuild
abbrev pub IsHelpShort : View → ℕ → ℕ → Full → Type 0
IsHelpShort w rebuild words full =
    LeavesTooFew (IsAskedFor (LacksNow w) (now w) rebuild) w.start words w.log full

-- too few words were left to help a rebuild of a row that was the anchor's child since
pub record IsTopShort (v w : View) (words : ℕ) (full : Full) : Type 0 where
  pub rebuild : ℕ
  pub target : ℕ
  pub of : IsRebuildOf (now w) rebuild target
  pub top : WasTop v w.log target
  pub help : IsHelpShort w rebuild words full

-- the caller has finished the target; if it wasn't refused, the rebuild is done too
pub record FreezesTarget (old new : Caller) (words rebuild target : ℕ) (outcome : FreezeOutcome)
    : Type 0 where
  pub on : StaysReady Rebuilds old new
  pub root_is : outcome.frozen.root ≡ Inner target
  pub finished : IsFinishedWith (now new.token.view) target outcome.frozen.keys
  pub done : outcome.refused ≡ None → (first : Snapshot)
      → StartsDoneBut first (now old.token.view) old.number rebuild
      → StartsDoneSince first (now new.token.view) old.number
  pub replaced : outcome.refused ≡ None → IsReplaced (now new.token.view) rebuild
  pub refused : IfSome outcome.refused (IsHelpShort new.token.view rebuild words)
  pub few : HasTakenFewUnless outcome.refused (sum (shape outcome.frozen.keys) + change_words) old new

-- this rebuild of the row was refused so
pub record IsTargetShort (v w : View) (words row rebuild : ℕ) (full : Full) : Type 0 where
  pub top : IsTopShort v w words full
  pub row_is : top.target ≡ row
  pub rebuild_is : top.rebuild ≡ rebuild

-- a rebuild of the row was started, and was replaced, if it wasn't refused
pub record IsRebuiltIn (v w : View) (words row : ℕ) (refused : Option Full) : Type 0 where
  pub rebuild : ℕ
  pub of : IsRebuildOf (now w) rebuild row
  pub replaced : refused ≡ None → IsReplaced (now w) rebuild
  pub short : IfSome refused (IsTargetShort v w words row rebuild)

-- the caller has frozen the tree; if it wasn't refused, all that it started is done
pub record Freezes (old new : Caller) (words : ℕ) (outcome : FreezeOutcome) : Type 0 where
  pub on : StaysReady Rebuilds old new
  pub frozen : let v = old.token.view in
      WasFrozen v.start v.words v.log new.token.view.log outcome.frozen
  pub done : outcome.refused ≡ None → KeepsDone old new
  pub rebuilt : (row : ℕ) → ref_meant outcome.frozen.root ≡ InnerAt row
      → IsRebuiltIn old.token.view new.token.view words row outcome.refused
  pub refused : IfSome outcome.refused (IsTopShort old.token.view new.token.view words)
  pub few : HasTakenFewUnless outcome.refused (words_of_freeze outcome.frozen.keys) old new

-- ---- reading what is frozen

-- the leaf with this base is number i of the leaves below the reference
pub record IsLeafNumber (t : Snapshot) (ref : Ref) (i base : ℕ) : Type 0 where
  pub leaves : List PlacedLeaf
  pub reached : HasLeaves t.pieces (Some ref) leaves
  pub leaf : PlacedLeaf
  pub there : slice_get leaves i ≡ Some leaf
  pub base_is : leaf.base ≡ base
