use Rattle.std.proofs.Common.{◌-◌, arith}
use Rattle.ist_rule.proofs.EventLemmas.{goes_on_same}
use Rattle.ist_find.specs.Searches.{keys_at}
use Rattle.ist_find.proofs.EdgeLemmas.{key_among}
use Rattle.ist_find.proofs.spans.first_of.Goals as goal

-- nothing was loaded
pub returns-then-index-eq0-clause-seen : goal.returns-then-index-eq0-clause-seen
returns-then-index-eq0-clause-seen c = goes_on_same _ c.know.ensures.sound

-- a greater key than the first is one of the row
pub returns-then-first-low-clause-edge : goal.returns-then-first-low-clause-edge
returns-then-first-low-clause-edge c less = let within = c.requires.within in
    key_among (keys_at c.args.token.now.view c.args.node) (c.args.index - 1) _ (omega arith)
    c.key_at-low.ensures.value
