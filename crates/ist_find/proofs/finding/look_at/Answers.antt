use Rattle.ist_find.proofs.ChildReadLemmas.{came_node, looks_at_child}
use Rattle.ist_find.proofs.finding.look_at.Goals as goal

-- the search has reached a node
pub read_child-requires-clause-node : goal.read_child-requires-clause-node
read_child-requires-clause-node c =
    (came_node _ c.know.ensures.sound c.args.key c.args.node c.requires.come.0, c.requires.come.1)

-- what was read there is a look of the search
pub returns : goal.returns
returns c = record {
  looked = looks_at_child _ _ c.args.node c.args.key _ _ _ c.requires.come.0
      c.read_child.ensures.read;
}
