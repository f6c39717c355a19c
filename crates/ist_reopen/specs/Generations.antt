-- The trees of a map's life, one after another, and the one history of all their calls.
use Rattle.std.specs.Prelude.{◌≡◌, ℕ, ◌<◌, List, [], ◌∷◌, ◌++◌, length, map, slice_index_or}
use Rattle.ist_core.specs.declared.calls.Call.{Call}
use Rattle.ist_core.specs.declared.pairs.Pair.{Pair}
use Rattle.ist_core.specs.Map.{Map, map_of, pairs_of, replay}
use Rattle.ist_core.specs.Elements.{Each}
use Rattle.ist_core.specs.Replies.{Answered}
use Rattle.ist_core.specs.Logs.{Log}
use Rattle.ist_core.specs.Changes.{Entry, changes_of}
use Rattle.ist_core.specs.Lawful.{Lawful}
use Rattle.ist_core.specs.Histories.{woven}
use Rattle.ist_core.specs.Resting.{AllStandIn}
use Rattle.laws_histories.specs.Telling.{map_now}
use Rattle.laws_histories.specs.Weaving.{numbered}
use Rattle.laws_real_time.specs.Moments.{Moments}
use Rattle.laws_real_time.specs.Making.{calls_returned}
use Rattle.laws_real_time.specs.Joining.{LinearizesTo, IsOver}
use Rattle.ist_tree.specs.Faces.{MakerFace}
use Rattle.ist_tree.specs.Closing.{ClosesWith, calls_taken}

-- ---- one tree

-- a tree that was closed: the pairs that it was opened with, how many words it had, its final log, the
-- moments of its calls, and the calls of each of its passes, by the number of the pass
pub record Generation : Type 0 where
  pub start : List Pair
  pub words : ℕ
  pub log : Log
  pub moments : Moments
  pub calls : List (List Call)

-- what a closed tree was, by its maker and its words
abbrev pub generation_of : (m : MakerFace) → (closed : List ℕ) → ClosesWith m closed → Generation
generation_of m closed c = record {
  start = m.tree.start;
  words = length closed;
  log = c.stands.log;
  moments = c.timed.moments;
  calls = calls_taken m;
}

-- the changes of the map that it made
abbrev pub changes_in : Generation → List Entry
changes_in g = changes_of g.start g.words g.log

-- the history of its calls: each change once, and each other call of its passes at its position
abbrev pub history_in : Generation → List Answered
history_in g = woven (changes_in g) (numbered 0 g.calls)

-- the pairs that it left
abbrev pub pairs_left : Generation → List Pair
pairs_left g = pairs_of (map_now g.start g.words g.log)

-- the calls of the pass with this number on one tree, or none if it has no such pass
abbrev pub calls_of : Generation → ℕ → List Call
calls_of g number = slice_index_or g.calls number []

-- its log is lawful, list number w of its calls is placed there as the calls of the pass with number
-- w, and each change of the map is a call of one of these passes. These calls are linearizable, lead to
-- the map after the changes, and none is in progress
pub record IsGeneration (g : Generation) : Type 0 where
  pub lawful : Lawful g.start g.words g.log
  pub stand : AllStandIn g.start g.words g.log 0 g.calls
  pub owners : Each (λ entry. entry.owner < length g.calls) (changes_in g)
  pub linear : LinearizesTo (map_of g.start) g.moments (map_now g.start g.words g.log)
  pub over : IsOver g.moments
  pub returned : (number : ℕ) → calls_returned number g.moments ≡ calls_of g number

-- ---- one tree after another

-- each tree begins with exactly the pairs that the one before left. The first begins with the
-- first pairs, and the last leaves the last ones
abbrev pub FollowOn : List Pair → List Generation → List Pair → Type 0
FollowOn first [] last = last ≡ first
FollowOn first (g ∷ more) last =
    (g.start ≡ first) × IsGeneration g × FollowOn (pairs_left g) more last

-- the history of all calls on all trees: one tree's history after another's
abbrev pub history : List Generation → List Answered
history [] = []
history (g ∷ more) = history_in g ++ history more

-- the moments of all calls on all trees, the newest first: each tree's are after those of the trees
-- before it
abbrev pub moments_over : List Generation → Moments
moments_over [] = []
moments_over (g ∷ more) = moments_over more ++ g.moments

-- the map after a history
abbrev pub map_told : Map → List Answered → Map
map_told m told = replay m (map (λ it. it.command) told)
