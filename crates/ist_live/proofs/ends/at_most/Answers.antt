use Rattle.std.proofs.Common.{◌+◌, arith}
use Rattle.ist_live.proofs.EndLemmas.{down_to_none, found_down, found_none_down, down_to_on}
use Rattle.ist_live.proofs.ends.at_most.Goals as goal

-- nothing was read yet
pub spans-init : goal.spans-init
spans-init c = down_to_none c.args.pass.now (c.args.key + 1)

-- one span more, down to its pair
pub returns-in-Some : goal.returns-in-Some
returns-in-Some c =
    let f = found_down _ _ _ (c.args.key + 1) c.spans.from _ _ c.spans.invariant c.read_down-pair.ensures.span
    c.in-Some.pair c.in-Some.is in
    record { read = f.read; next = f.next; spans = f.spans }

-- one without a pair, down to 0
pub returns-then-to-eq0 : goal.returns-then-to-eq0
returns-then-to-eq0 c =
    let f = found_none_down _ _ _ (c.args.key + 1) c.spans.from _ _ c.spans.invariant
    c.read_down-pair.ensures.span c.in-None.is c.if-to-eq0.true in
    record { read = f.read; next = f.next; spans = f.spans }

-- or down to where it goes on
pub spans-preserved : goal.spans-preserved
spans-preserved c = let other = c.if-to-eq0.false in
    down_to_on _ _ _ (c.args.key + 1) c.spans.from _ _ c.spans.invariant c.read_down-pair.ensures.span
    c.in-None.is (omega arith) (c.read_down-pair.ensures.edge (omega arith))
