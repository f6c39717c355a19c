use Rattle.laws_calls.proofs.KeyWalkLemmas.{key_walk, walk_comes}
use Rattle.laws_calls.proofs.walks.walks_by_key_are_searches.Goals as goal

pub returns : goal.returns
returns c = record {
  walk = key_walk;
  search = λ pairs words at log l on key first node rows w.
      walk_comes pairs words l.opens log l.enabled key first at on node rows w;
}
