-- A tree, its passes, notes and maker, as contracts see them.
use Rattle.std.specs.Prelude.{ℕ, ◌==◌, ◌||◌, if◌then◌else◌, Bool, is_some, List, [], ◌∷◌, Option, None}
use Rattle.ist_core.specs.declared.calls.Call.{Call}
use Rattle.ist_core.specs.declared.pairs.Pair.{Pair}
use Rattle.ist_core.specs.declared.ports.Full.{Full}
use Rattle.ist_core.specs.Logs.{Log}
use Rattle.ist_core.specs.Changes.{Entry, changes_of}
use Rattle.ist_core.specs.Histories.{PassCalls}
use Rattle.ist_core.specs.Replies.{Refused}
use Rattle.laws_histories.specs.Calls.{HasCalls}
use Rattle.laws_real_time.specs.Moments.{Moments}
use Rattle.ist_rule.specs.declared.view.TableName.{TableName}

-- a tree: which one it is, the pairs that it was opened with, and how many words it has
pub record TreeFace : Type 0 where
  pub table : TableName
  pub start : List Pair
  pub words : ℕ

-- a pass, or what a note keeps of one: its tree and its number, the log that it has seen, its
-- stamp, its calls with their replies, the oldest first, and the moments of all calls that it has
-- heard of, the newest first. `loaded` counts its loads, `searches` the walks that it began from the
-- anchor, and `refused` is the first refusal of a rebuild that one of its calls met after its own
-- change, or that a freeze met after a rebuild was in place
pub record PassFace : Type 0 where
  pub tree : TreeFace
  pub number : ℕ
  pub seen : Log
  pub stamp : ℕ
  pub calls : List Call
  pub moments : Moments
  pub loaded : ℕ
  pub searches : ℕ
  pub refused : Option Full

-- a maker: its tree, how many passes it made, the log that it has seen, its stamp, the moments that
-- it has heard of, and the passes that it took back, the last first. `refused` says whether one of
-- these had met a refused rebuild
pub record MakerFace : Type 0 where
  pub tree : TreeFace
  pub made : ℕ
  pub seen : Log
  pub stamp : ℕ
  pub moments : Moments
  pub taken : List PassCalls
  pub refused : Bool

-- a port: its pass, and its last refusal, if there was one
pub record PortFace : Type 0 where
  pub pass : PassFace
  pub refused : Option Refused

-- the changes of the map that a pass has seen, the oldest first
abbrev pub changes_seen : PassFace → List Entry
changes_seen p = changes_of p.tree.start p.tree.words p.seen

-- a pass's number and calls, to weave them with the calls of others
abbrev pub calls_in : PassFace → PassCalls
calls_in p = record { number = p.number; calls = p.calls }

-- the calls of a pass have their positions among the changes that it has seen, and none has a stamp
-- above the pass's own
abbrev pub HasItsCalls : PassFace → Type 0
HasItsCalls p = HasCalls p.tree.start p.tree.words p.seen p.number p.stamp p.calls

-- a pass of this tree that the maker made now, by its number: it has seen what the maker has seen, and
-- has done nothing yet
abbrev pub fresh_pass : TreeFace → MakerFace → ℕ → PassFace
fresh_pass tree m number =
    record {
      tree = tree;
      number = number;
      seen = m.seen;
      stamp = m.stamp;
      calls = [];
      moments = m.moments;
      loaded = 0;
      searches = 0;
      refused = None;
    }

-- the maker that has taken this pass back
abbrev pub with_back : PassFace → MakerFace → MakerFace
with_back p m =
    record m { taken = calls_in p ∷ m.taken; refused = m.refused || is_some p.refused }

-- what a note of a pass keeps: all that the pass knew, but none of its loads, walks and refusals
abbrev pub noted : PassFace → PassFace
noted p = record p { loaded = 0; searches = 0; refused = None }

-- the calls of the pass with this number, if it is one of these
abbrev pub calls_numbered : ℕ → List PassCalls → List Call
calls_numbered number [] = []
calls_numbered number (pass ∷ more) =
    if pass.number == number then pass.calls else calls_numbered number more
