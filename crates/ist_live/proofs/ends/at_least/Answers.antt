use Rattle.std.proofs.Common.{arith}
use Rattle.ist_live.proofs.EndLemmas.{up_to_none, found_up, found_none_up, up_to_on}
use Rattle.ist_live.proofs.ends.at_least.Goals as goal

-- nothing was read yet
pub spans-init : goal.spans-init
spans-init c = up_to_none c.args.pass.now c.args.key c.ranges.key.fits

pub read_up-pair-requires-clause-some : goal.read_up-pair-requires-clause-some
read_up-pair-requires-clause-some c = let fits = c.spans.invariant.small in omega arith

-- one span more, up to its pair
pub returns-in-Some : goal.returns-in-Some
returns-in-Some c =
    let f = found_up _ _ _ c.args.key _ _ _ c.spans.invariant c.read_up-pair.ensures.span c.in-Some.pair
    c.in-Some.is in
    record { read = f.read; next = f.next; spans = f.spans }

-- one without a pair, up to the end of all keys
pub returns-then-to : goal.returns-then-to
returns-then-to c = let top = c.if-to.true in
    let f = found_none_up _ _ _ c.args.key _ _ _ c.spans.invariant c.read_up-pair.ensures.span c.in-None.is
    (omega arith) in
    record { read = f.read; next = f.next; spans = f.spans }

-- or up to where it goes on
pub spans-preserved : goal.spans-preserved
spans-preserved c = let last = c.read_up-pair.ensures.last in let other = c.if-to.false in
    up_to_on _ _ _ c.args.key _ _ _ c.spans.invariant c.read_up-pair.ensures.span c.in-None.is (omega arith)
    (c.read_up-pair.ensures.edge (omega arith))
