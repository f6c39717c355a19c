-- A tree that is closed: what its words represent.
use Rattle.std.specs.Prelude.{◌≡◌, ℕ, ◌+◌, ◌<◌, false, List, [], ◌∷◌, map, length, zero, suc}
use Rattle.ist_core.specs.declared.calls.Call.{Call}
use Rattle.ist_core.specs.Elements.{Each}
use Rattle.ist_core.specs.Logs.{GoesOn}
use Rattle.ist_core.specs.Changes.{changes_of, map_after_entries}
use Rattle.ist_core.specs.Histories.{PassCalls}
use Rattle.ist_core.specs.Map.{map_of, replay}
use Rattle.ist_core.specs.Replies.{Answered}
use Rattle.ist_core.specs.Lawful.{state_of}
use Rattle.ist_core.specs.Resting.{StandsFor, IsSettled, told_by_call}
use Rattle.ist_tree.specs.Faces.{MakerFace, calls_numbered}
use Rattle.ist_tree.specs.RealTime.{ClosesInTime}

-- the calls of `count` passes, with the numbers from this one on
abbrev pub calls_from : ℕ → ℕ → List PassCalls → List (List Call)
calls_from number zero taken = []
calls_from number (suc count) taken =
    calls_numbered number taken ∷ calls_from (number + 1) count taken

-- the calls of all passes of a maker that took all of them back, by their numbers
abbrev pub calls_taken : MakerFace → List (List Call)
calls_taken m = calls_from 0 m.made m.taken

-- the commands and replies of each of these passes
abbrev pub told_to : MakerFace → List (List Answered)
told_to m = map (map told_by_call) (calls_taken m)

-- the words represent the opening pairs and the calls of each pass by its number. The changes of
-- the final log, which goes on from what the maker had seen, are the changing calls of these passes
-- and no others. These calls are linearizable, and lead to the map after these changes. If no pass had met
-- a refused rebuild, the final state is settled
pub record ClosesWith (m : MakerFace) (words : List ℕ) : Type 0 where
  pub stands : StandsFor words m.tree.start (told_to m)
  pub calls_are : stands.calls ≡ calls_taken m
  pub goes_on : GoesOn m.seen stands.log
  pub owners : Each (λ entry. entry.owner < m.made)
      (changes_of m.tree.start (length words) stands.log)
  pub timed : ClosesInTime m.tree.start m.made m.moments m.taken
  pub leads : replay (map_of m.tree.start) (map (λ call. call.command) timed.linear.order)
      ≡ map_after_entries (map_of m.tree.start) (changes_of m.tree.start (length words) stands.log)
  pub settled : m.refused ≡ false → IsSettled (state_of m.tree.start (length words) stands.log)
