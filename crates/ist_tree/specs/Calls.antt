-- How a pass goes on: what it has seen and learnt, which call was added to it, how its calls are
-- woven with the calls of another.
use Rattle.std.specs.Prelude.{◌≡◌, ℕ, ◌+◌, ◌≤◌, List, [], ◌∷◌, ◌++◌, length, Option}
use Rattle.std.specs.List.{sum_by}
use Rattle.ist_core.specs.declared.calls.Call.{Call}
use Rattle.ist_core.specs.declared.commands.Command.{Command}
use Rattle.ist_core.specs.Arithmetic.{child_count}
use Rattle.ist_core.specs.Map.{map_of}
use Rattle.ist_core.specs.Elements.{Each}
use Rattle.ist_core.specs.Pieces.{as_inner}
use Rattle.ist_core.specs.Snapshots.{Snapshot}
use Rattle.ist_core.specs.Logs.{GoesOn}
use Rattle.ist_core.specs.Lawful.{state_of}
use Rattle.ist_core.specs.Standing.{Follows}
use Rattle.ist_core.specs.Histories.{woven, IsLegal}
use Rattle.laws_stability.specs.Progress.{progress}
use Rattle.ist_math.specs.Guess.{guess_in, distance}
use Rattle.laws_histories.specs.Calls.{IsAdded}
use Rattle.laws_histories.specs.Placing.{HasPlaces}
use Rattle.laws_histories.specs.Searching.{Searched}
use Rattle.laws_calls.specs.Walking.{IsChainOf}
use Rattle.ist_rule.specs.Speaking.{MomentsGoOn}
use Rattle.ist_find.specs.Searches.{keys_in}
use Rattle.ist_tree.specs.Faces.{PassFace, MakerFace, changes_seen, calls_in, HasItsCalls}
use Rattle.ist_tree.specs.RealTime.{RunsInTime}

-- ---- seeing and learning

-- the pass is the same, on the same tree; it has seen all that it had seen, and perhaps more, and so
-- with the moments of all calls; and its stamp didn't fall
pub record HasSeenMore (p q : PassFace) : Type 0 where
  pub tree : q.tree ≡ p.tree
  pub number : q.number ≡ p.number
  pub seen : GoesOn p.seen q.seen
  pub heard : MomentsGoOn p.moments q.moments
  pub stamp : p.stamp ≤ q.stamp

-- the pass has learnt what another knew: it has seen all that the other had seen, and its stamp is
-- no lower
pub record HasLearnt (p other : PassFace) : Type 0 where
  pub tree : other.tree ≡ p.tree
  pub seen : GoesOn other.seen p.seen
  pub stamp : other.stamp ≤ p.stamp

-- the maker is as it was, but for this: it has seen all that it had seen, and perhaps more, and so with
-- the moments of all calls; and its stamp didn't fall
pub record MakerHasSeenMore (m n : MakerFace) : Type 0 where
  pub same : n ≡ record m { seen = n.seen; stamp = n.stamp; moments = n.moments }
  pub seen : GoesOn m.seen n.seen
  pub heard : MomentsGoOn m.moments n.moments
  pub stamp : m.stamp ≤ n.stamp

-- the maker has learnt what a pass knew, or a note of one: it has seen all that the pass had seen, and
-- so with the moments; and its stamp is no lower
pub record MakerHasLearnt (m : MakerFace) (p : PassFace) : Type 0 where
  pub seen : GoesOn p.seen m.seen
  pub heard : MomentsGoOn p.moments m.moments
  pub stamp : p.stamp ≤ m.stamp

-- ---- one more call

-- the pass made one more call, with this command and this reply, in real time. The call follows the
-- pass's earlier calls among the changes that the pass has seen. It is fresh: its position is after all
-- changes that the pass had seen before, and its stamp is higher. So it comes after each call that
-- the pass had learnt of
pub record AddsCall (p q : PassFace) (command : Command) (reply : Option ℕ) : Type 0 where
  pub call : Call
  pub command_is : call.command ≡ command
  pub reply_is : call.reply ≡ reply
  pub stamp_is : call.stamp ≡ q.stamp
  pub calls_are : q.calls ≡ p.calls ++ call ∷ []
  pub timed : RunsInTime p q command reply
  pub added : IsAdded p.tree.start p.tree.words p.seen q.seen p.number p.stamp p.calls call
  pub learnt : (other : PassFace) → HasLearnt p other → HasItsCalls other
      → Each (λ known. Follows known call) other.calls

-- ---- walks

-- the pass began one walk, and at most one more for each step of progress that it saw the table
-- make
abbrev pub BeginsFewWalks : PassFace → PassFace → Type 0
BeginsFewWalks p q = q.searches + progress p.seen ≤ p.searches + 1 + progress q.seen

-- ---- weaving

-- each of the two passes has its calls, and together they are woven into one legal history, among
-- the changes that the first has seen: each change once, and each other call of theirs once, in
-- order of position and stamp
pub record WeavesWith (p other : PassFace) : Type 0 where
  pub mine : HasItsCalls p
  pub theirs : HasItsCalls other
  pub legal : IsLegal (map_of p.tree.start)
      (woven (changes_seen p) (calls_in p ∷ calls_in other ∷ []))
  pub places : HasPlaces (changes_seen p) (calls_in p ∷ calls_in other ∷ [])

-- ---- loads

-- how many loads an inner row costs a search for the key: 12, and one for each child that the guess
-- is off the child for the key
abbrev pub row_loads : Snapshot → ℕ → ℕ → ℕ
row_loads t key row =
    let keys = keys_in (as_inner (t.pieces row)) in
    distance (guess_in keys key) (child_count keys key) + 12

-- the pass made one search, for the key: it began after what the pass had seen before, and ended at
-- a slot of this node with this value. The pass made few loads: at most 12, and what the rows on the
-- node's chain cost
pub record HasLoadedFew (p q : PassFace) (key : ℕ) (value : Option ℕ) : Type 0 where
  pub once : q.searches ≡ p.searches + 1
  pub began : ℕ
  pub since : length p.seen ≤ began
  pub node : ℕ
  pub searched : Searched q.tree.start q.tree.words q.seen key began node value
  pub rows : List ℕ
  pub chain : IsChainOf q.tree.start q.tree.words q.seen node rows
  pub few : let t = state_of q.tree.start q.tree.words q.seen in
      q.loaded ≤ p.loaded + 12 + sum_by (row_loads t key) rows
