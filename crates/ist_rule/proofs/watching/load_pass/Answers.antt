use Rattle.std.proofs.Common.{ap, arith}
use Rattle.ist_rule.proofs.WatchedLoadLemmas.{can_load_pass}
use Rattle.ist_rule.proofs.ExchangeLemmas.{known_low}
use Rattle.ist_rule.proofs.watching.load_pass.Goals as goal

-- the place lies within the table, and the load may be the event
pub load_as-requires : goal.load_as-requires
load_as-requires c =
    let can = can_load_pass _ _ _ c.args.place c.know.ensures.sound c.requires.may_load in
    let low = known_low _ _ c.know.ensures.sound can.known in let known = c.know.ensures.words in
    let same = ap (λ t. t.words) c.requires.same_table in
    (c.requires.same_table, (omega arith, can))
