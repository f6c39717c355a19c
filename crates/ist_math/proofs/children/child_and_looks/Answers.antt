use Rattle.std.proofs.Common.{◌-◌, length, get_or, sym, arith}
use Rattle.ist_math.proofs.ChildLemmas.{child_is_first, child_is_last}
use Rattle.ist_math.proofs.GallopLemmas.{guess_of-between}
use Rattle.ist_math.proofs.children.child_and_looks.Goals as goal

pub returns-then-x-keys-clause-value : goal.returns-then-x-keys-clause-value
returns-then-x-keys-clause-value c =
    sym (child_is_first c.args.keys.now c.args.x c.requires.rising c.if-x-keys.true)

pub returns-then-keys-count-clause-value : goal.returns-then-keys-count-clause-value
returns-then-keys-count-clause-value c =
    sym (child_is_last c.args.keys.now c.args.x c.requires.rising c.if-keys-count.true)

-- x lies between the end keys
pub gallop_from-found-requires-clause-within : goal.gallop_from-found-requires-clause-within
gallop_from-found-requires-clause-within c = let keys = c.args.keys.now in
    let is = c.guess.ensures.value in
    let between = guess_of-between (get_or keys 0 0) (get_or keys (length keys - 1) 0) (length keys)
    c.args.x (omega arith) c.if-x-keys.false c.if-keys-count.false in
    omega (arith, between.1)
