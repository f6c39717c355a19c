use Rattle.std.proofs.Common.{◌∙◌, ap}
use Rattle.ist_rule.specs.declared.view.View.{View}
use Rattle.ist_find.proofs.ChildReadLemmas.{came_node, looks_for_all}
use Rattle.ist_find.proofs.EdgeLemmas.{edges_on}
use Rattle.ist_find.proofs.SpanLemmas.{node_later}
use Rattle.ist_find.proofs.spans.look_for_all.Goals as goal

-- the search for the key has reached a node
pub read_child-look-requires-clause-node : goal.read_child-look-requires-clause-node
read_child-look-requires-clause-node c =
    let come = c.requires.come.0 c.args.key c.requires.first c.requires.last in
    (came_node _ c.know.ensures.sound c.args.key c.args.node come, c.requires.come.1)

-- it is a node still, with the same child for the key
pub shared_ends-shared-requires : goal.shared_ends-shared-requires
shared_ends-shared-requires c = let g = c.read_child-look.ensures.read.seen in record {
  node = (
    node_later _ _ g c.args.node (came_node _ c.know.ensures.sound c.args.key c.args.node
        (c.requires.come.0 c.args.key c.requires.first c.requires.last)),
    ap (λ (v : View). v.table) g.same ∙ c.requires.come.1,
  );
  child = c.read_child-look.ensures.read.child;
  first = c.requires.first;
  last = c.requires.last;
  edges = edges_on _ _ g c.args.ends.first c.args.ends.last c.requires.edges;
}

-- the loads are a look for each key that has the child
pub returns : goal.returns
returns c = let ends = c.shared_ends-shared.ensures in record {
  looked = looks_for_all _ _ _ c.args.node c.args.key c.args.ends.first c.args.ends.last _ _ _ _
      _ (c.requires.come.0 c.args.key c.requires.first c.requires.last)
      c.read_child-look.ensures.read ends.seen ends.low ends.first ends.last ends.high
      ends.edges ends.share ends.loads ends.anchor_loads;
}
