-- A span is read by a search in no call.
use Rattle.ist_tree.proofs.ReadLemmas.{SpanEnds, read_begun, span_ends}
use Rattle.ist_tree.proofs.trees.Tree.span.Goals as goal
use Rattle.ist_tree.proofs.trees.Tree.span.Goals.{After-find_span}

pub find_span-requires-clause-begun : goal.find_span-requires-clause-begun
find_span-requires-clause-begun c = read_begun _ _ c.begin_read.ensures.begun

-- what the search results in
ends : (c : After-find_span) → SpanEnds c.args.pass.now c.pass.inside.caller c.pass.inside.refused
    c.find_span.new.token c.args.key c.find_span.result.first c.find_span.result.last
    c.find_span.result.pair
ends c =
    span_ends c.pass.inside.caller c.pass.inside.refused _ c.find_span.new.token c.pass.invariant
    c.begin_read.ensures.begun c.find_span.ensures.seen
    c.args.key c.find_span.result.first c.find_span.result.last c.find_span.result.pair
    c.find_span.ensures.loads c.find_span.ensures.edges c.find_span.ensures.values
    c.args.pass.now c.pass.view_is

pub invariant_of-pass : goal.invariant_of-pass
invariant_of-pass c = (ends c).pass

pub returns-clause-seen : goal.returns-clause-seen
returns-clause-seen c = (ends c).seen

pub returns-clause-values : goal.returns-clause-values
returns-clause-values c = (ends c).values

pub returns-clause-calls : goal.returns-clause-calls
returns-clause-calls c = (ends c).calls

pub returns-clause-stamp : goal.returns-clause-stamp
returns-clause-stamp c = (ends c).stamp

pub returns-clause-loads : goal.returns-clause-loads
returns-clause-loads c = (ends c).loads

pub returns-clause-edges : goal.returns-clause-edges
returns-clause-edges c = (ends c).edges
