-- A pair is read only by loads.
use Rattle.std.proofs.Common.{ap, ◌∙◌, arith}
use Rattle.ist_rule.specs.declared.view.View.{View}
use Rattle.ist_tree.specs.CallTerms.{PassFace}
use Rattle.ist_tree.proofs.FewFreezeLemmas.{ReadEnds, read_ends}
use Rattle.ist_tree.proofs.trees.Tree.counted_pair.Goals as goal
use Rattle.ist_tree.proofs.trees.Tree.counted_pair.Goals.{After-pair_and_loads}

-- what the reading results in
ends : (c : After-pair_and_loads) → ReadEnds c.args.pass.now c.pass.inside.caller c.pass.inside.refused
    c.pair_and_loads.new.token c.args.frozen.now
ends c =
    read_ends c.pass.inside.caller c.pass.inside.refused c.pair_and_loads.new.token c.pass.invariant
    c.pair_and_loads.ensures.seen c.args.frozen.now c.args.pass.now c.pass.view_is c.requires.frozen

pub invariant_of-pass : goal.invariant_of-pass
invariant_of-pass c = (ends c).pass

pub returns-clause-seen : goal.returns-clause-seen
returns-clause-seen c = (ends c).seen

pub returns-clause-calls : goal.returns-clause-calls
returns-clause-calls c = (ends c).calls

pub returns-clause-still : goal.returns-clause-still
returns-clause-still c = (ends c).still

pub returns-clause-counted : goal.returns-clause-counted
returns-clause-counted c = let before = ap (λ (it : PassFace). it.loaded) c.pass.view_is in
    let counted = c.pair_and_loads.ensures.counted in omega arith

pub returns-clause-no_walk : goal.returns-clause-no_walk
returns-clause-no_walk c = ap (λ (y : View). y.searches) c.pair_and_loads.ensures.seen.same
    ∙ ap (λ (it : PassFace). it.searches) c.pass.view_is
