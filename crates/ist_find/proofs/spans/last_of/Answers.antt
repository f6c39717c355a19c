use Rattle.std.proofs.Common.{◌≡◌, ◌+◌, ◌-◌, ◌∙◌, arith}
use Rattle.ist_rule.proofs.EventLemmas.{goes_on_same}
use Rattle.ist_find.specs.Searches.{keys_at}
use Rattle.ist_find.proofs.EdgeLemmas.{key_among}
use Rattle.ist_find.proofs.spans.last_of.Goals as goal

-- nothing was loaded
pub returns-then-index-count-clause-seen : goal.returns-then-index-count-clause-seen
returns-then-index-count-clause-seen c = goes_on_same _ c.know.ensures.sound

-- the key after a lesser one than the last is one of the row
pub returns-then-next-last-clause-edge : goal.returns-then-next-last-clause-edge
returns-then-next-last-clause-edge c less = let keys = keys_at c.args.token.now.view c.args.node in
    let within = c.requires.within in let count = c.requires.count in
    let other = c.if-index-count.false in let below = c.requires.below (omega arith) in
    let value = c.key_at-next.ensures.value in
    let same : c.key_at-next.result - 1 + 1 ≡ c.key_at-next.result = omega arith in
    key_among keys c.args.index _ (omega arith) (same ∙ value)
