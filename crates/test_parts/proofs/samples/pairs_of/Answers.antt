use Rattle.std.proofs.Common.{◌≡◌, ◌∙◌, ap, arith, map}
use Rattle.ist_image.proofs.RisingLemmas.{length-numbered, numbered_open, numbered_more}
use Rattle.test_parts.proofs.samples.pairs_of.Goals as goal

pub loop-key-preserved : goal.loop-key-preserved
loop-key-preserved c = ap (map (λ pair. pair.key)) c.in_ok-push.ensures.items
    ∙ numbered_more c.loop-key.pairs.items c.loop-key.key _ c.loop-key.invariant

pub returns-clause-count : goal.returns-clause-count
returns-clause-count c = let all : c.loop-key.key ≡ c.args.count = omega arith in
    length-numbered c.loop-key.pairs.items c.loop-key.key c.loop-key.invariant ∙ all

pub returns-clause-opens : goal.returns-clause-opens
returns-clause-opens c words room within = let all : c.loop-key.key ≡ c.args.count = omega arith in
    numbered_open c.loop-key.pairs.items c.loop-key.key words c.loop-key.invariant (omega arith)
    within
