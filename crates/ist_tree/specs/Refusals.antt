-- Why a put or a remove is refused, and why the rebuild after one is refused.
use Rattle.std.specs.Prelude.{◌≡◌, ◌≢◌, ℕ, ◌+◌, ◌⊎◌, ◌∷◌, length, Option, Some, None}
use Rattle.ist_core.specs.declared.commands.Command.{Command}
use Rattle.ist_core.specs.declared.commands.Command.TheVariants.{Get}
use Rattle.ist_core.specs.declared.events.Event.TheVariants.{Count}
use Rattle.ist_core.specs.declared.ports.Full.{Full}
use Rattle.ist_core.specs.declared.states.RebuildRow.{RebuildRow}
use Rattle.ist_core.specs.Lawful.{state_of}
use Rattle.ist_core.specs.Links.{IsChild}
use Rattle.ist_core.specs.Logs.{Ever, Log, GoesOn}
use Rattle.ist_core.specs.Marking.{HasTarget}
use Rattle.ist_core.specs.Pieces.{Rebuild}
use Rattle.ist_core.specs.Rebuilding.{IsStarted, IsReplaced}
use Rattle.ist_core.specs.Replies.{Refused}
use Rattle.ist_core.specs.RowLayout.{anchor, leaf_words, pair_words, change_words}
use Rattle.ist_core.specs.StartLayout.{start}
use Rattle.laws_calls.specs.Finishing.{puts_in}
use Rattle.laws_histories.specs.Searching.{HasPosition}
use Rattle.laws_calls.specs.Settling.{StartsAreDone}
use Rattle.ist_rows.specs.Shortage.{LeavesTooFew, LeftTooFew}
use Rattle.ist_build.specs.Laying.{IsForNode}
use Rattle.ist_rebuild.specs.Helping.{IsAskedFor}
use Rattle.ist_rebuild.specs.Lacking.{LacksRow}
use Rattle.ist_rebuild.specs.Starting.{IsForStart}
use Rattle.ist_updates.specs.Asking.{command_for}
use Rattle.ist_updates.specs.Counting.{CameToLimit}
use Rattle.ist_updates.specs.Refusals.{IsOnWay, MetOtherLeaf}
use Rattle.ist_tree.specs.Calls.{HasSeenMore}
use Rattle.ist_tree.specs.Faces.{PassFace, changes_seen}

-- ---- how many words there were

-- too few words were left for what `Asks` says after some log, which goes on from what the pass had
-- seen before a call, and which it had seen by the end of the call
abbrev pub HadTooFew : (Log → ℕ → Type 0) → PassFace → PassFace → Full → Type 0
HadTooFew Asks p q full = LeftTooFew Asks p.tree.start p.tree.words p.seen q.seen full

-- ---- how many were asked for

-- `asked` is the size of a node over at least two keys, and over no more keys than there were pairs
-- at the opening and puts since, together
abbrev pub IsForSomeNode : PassFace → ℕ → Type 0
IsForSomeNode p = IsForNode (length p.tree.start + puts_in (changes_seen p))

-- helping a rebuild asks for this many words at a time: the size of a change, or of a node
abbrev pub IsForRebuild : PassFace → ℕ → Type 0
IsForRebuild p asked = (asked ≡ change_words) ⊎ IsForSomeNode p asked

-- a rebuild was started by the end of a call, and hadn't been replaced when the call began
pub record HasMetRebuild (p q : PassFace) : Type 0 where
  pub rebuild : ℕ
  pub started : IsStarted (state_of q.tree.start q.tree.words q.seen) rebuild
  pub unreplaced : ¬ (IsReplaced (state_of p.tree.start p.tree.words p.seen) rebuild)

-- the key leads to the slot in which this rebuild was started
abbrev pub IsOnKeysWay : PassFace → ℕ → ℕ → Type 0
IsOnKeysWay q key rebuild = IsOnWay q.tree.start q.tree.words q.seen key rebuild

-- after this log the pass held no row of this size, apart from rows of builds for which too few words
-- are left
abbrev pub LackedAt : PassFace → Log → ℕ → Type 0
LackedAt p at size = LacksRow (state_of p.tree.start p.tree.words at) p.number size

-- helping this very rebuild asked for this many words after this log: for a change that the pass
-- lacked, or for a node over at least two keys, and no more than its finished target has
abbrev pub IsForHelp : PassFace → Log → ℕ → ℕ → Type 0
IsForHelp p at = IsAskedFor (LackedAt p at) (state_of p.tree.start p.tree.words p.seen)

-- this many words were asked for after this log of a call with this key, for a row that the pass
-- lacked: by a put for a leaf, a change, or a pair row if the key led to another key's leaf; by a remove
-- for a change, if the map had the key since; by both to help a rebuild that they met on the key's way
pub data IsAskedIn (p q : PassFace) (at : Log) (key : ℕ) : Option ℕ → ℕ → Type 0 where
  for_leaf : {value asked : ℕ} → asked ≡ leaf_words → LackedAt q at asked
      → IsAskedIn p q at key (Some value) asked
  for_pair : {value asked : ℕ} → asked ≡ pair_words → LackedAt q at asked
      → MetOtherLeaf p.tree.start p.tree.words p.seen q.seen key
      → IsAskedIn p q at key (Some value) asked
  for_put : {value asked : ℕ} → asked ≡ change_words → LackedAt q at asked
      → IsAskedIn p q at key (Some value) asked
  for_remove : {asked : ℕ} (found : ℕ)
      → HasPosition p.tree.start p.tree.words p.seen q.seen key (Some found)
      → asked ≡ change_words → LackedAt q at asked → IsAskedIn p q at key None asked
  for_rebuild : {value : Option ℕ} {asked : ℕ} (met : HasMetRebuild p q)
      → IsOnKeysWay q key met.rebuild → IsForRebuild q asked → IsForHelp q at met.rebuild asked
      → IsAskedIn p q at key value asked

-- ---- refusals

-- a put of the value at the key, or a remove of the key if there is no value, was refused because
-- too few words were left
abbrev pub IsRefused : PassFace → PassFace → ℕ → Option ℕ → Full → Type 0
IsRefused p q key value full = HadTooFew (λ at. IsAskedIn p q at key value) p q full

-- ---- refusals of a rebuild

-- a rebuild of this row was started by the end of a call, and took this many words after this log
pub record IsForRebuildOf (q : PassFace) (at : Log) (row asked : ℕ) : Type 0 where
  pub rebuild : ℕ
  pub started : IsStarted (state_of q.tree.start q.tree.words q.seen) rebuild
  pub target : HasTarget (state_of q.tree.start q.tree.words q.seen) rebuild row
  pub size : IsForRebuild q asked
  pub help : IsForHelp q at rebuild asked

-- the rebuild was started in a slot in which this row was
pub record IsInSlotOf (q : PassFace) (rebuild row : ℕ) : Type 0 where
  pub site : RebuildRow
  pub published : (state_of q.tree.start q.tree.words q.seen).pieces rebuild ≡ Some (Rebuild site)
  pub was_child : Ever (start q.tree.start q.tree.words) (λ t.
      IsChild t site.parent site.index row) q.seen

-- this many words were asked for after this log to rebuild a row: for the start's rebuild row or
-- change, which the pass lacked; or to help its rebuild, or another that the call met in its slot
pub data IsAskedForRow (p q : PassFace) (at : Log) (row asked : ℕ) : Type 0 where
  for_start : IsForStart asked → LackedAt q at asked → IsAskedForRow p q at row asked
  for_own : IsForRebuildOf q at row asked → IsAskedForRow p q at row asked
  for_other : (met : HasMetRebuild p q) → IsInSlotOf q met.rebuild row → IsForRebuild q asked
      → IsForHelp q at met.rebuild asked → IsAskedForRow p q at row asked

-- an increment of the pass in this call brought the row to its limit, and after it too few words
-- were left to rebuild the row
pub record IsRowRefused (p q : PassFace) (row : ℕ) (full : Full) : Type 0 where
  pub came : CameToLimit p.tree.start p.tree.words p.seen q.seen p.number row
  pub had : HadTooFew (λ at. IsAskedForRow p q at row) p q full
  pub after : GoesOn (Count p.number row ∷ came.at) had.at

-- a pass keeps its refusal of a rebuild, and a new one is of a row that reached its limit in
-- this put or remove
pub record KeepsRowRefusal (p q : PassFace) : Type 0 where
  pub stays : (full : Full) → p.refused ≡ Some full → q.refused ≡ Some full
  pub cause : (full : Full) → q.refused ≡ Some full
      → (p.refused ≡ Some full) ⊎ ((row : ℕ) × IsRowRefused p q row full)

-- a row was below the anchor at a step of this call, and too few words were left to help a rebuild
-- of it
pub record IsTopRefused (p q : PassFace) (full : Full) : Type 0 where
  pub row : ℕ
  pub at : Log
  pub since : GoesOn p.seen at
  pub until : GoesOn at q.seen
  pub child : IsChild (state_of p.tree.start p.tree.words at) anchor 0 row
  pub had : HadTooFew (λ at. IsForRebuildOf q at row) p q full

-- a pass keeps its refusal of a rebuild, and a new one is of what was below the anchor in this
-- freeze
pub record KeepsRefusal (p q : PassFace) : Type 0 where
  pub stays : (full : Full) → p.refused ≡ Some full → q.refused ≡ Some full
  pub cause : (full : Full) → q.refused ≡ Some full
      → (p.refused ≡ Some full) ⊎ IsTopRefused p q full

-- if the pass keeps no refusal of a rebuild, each rebuild that it started was replaced, or is in a
-- parent that isn't open
abbrev pub HasStartsDone : PassFace → Type 0
HasStartsDone p =
    p.refused ≡ None → StartsAreDone (state_of p.tree.start p.tree.words p.seen) p.number

-- ---- what a port reports

-- this command is a put or a remove, which was refused in the call
pub record IsRefusedCall (p q : PassFace) (command : Command) (full : Full) : Type 0 where
  pub key : ℕ
  pub value : Option ℕ
  pub command_is : command ≡ command_for key value
  pub cause : IsRefused p q key value full

-- a put or a remove may ask for this many words at a time: the size of a leaf, a pair row, a change
-- or a node
abbrev pub MayBeAsked : PassFace → ℕ → Type 0
MayBeAsked p asked =
    (asked ≡ leaf_words) ⊎ ((asked ≡ pair_words) ⊎ ((asked ≡ change_words) ⊎ IsForSomeNode p asked))

-- a put or a remove of the pass was refused with these numbers, after a log that the pass has seen:
-- it began when the pass had seen what `began` says, and ended when it had seen what `ended` says
pub record PassWasRefused (p : PassFace) (said : Refused) : Type 0 where
  pub update : (key : ℕ) → said.command ≢ Get key
  pub at : Log
  pub until : GoesOn at p.seen
  pub left : LeavesTooFew (MayBeAsked p) p.tree.start p.tree.words at said.full
  pub began : PassFace
  pub ended : PassFace
  pub call : HasSeenMore began ended
  pub later : HasSeenMore ended p
  pub cause : IsRefusedCall began ended said.command said.full
