use Rattle.std.proofs.Common.{◌≡◌, ◌+◌, ap, subst, arith}
use Rattle.ist_rule.specs.RuleTerms.{CanLoadAs, past_of}
use Rattle.ist_core.specs.WordTerms.{inner_status_offset}
use Rattle.ist_rule.proofs.WatchedLoadLemmas.{can_load_past}
use Rattle.ist_rule.proofs.ExchangeLemmas.{known_low}
use Rattle.ist_rule.proofs.watching.load_past.Goals as goal

-- the place lies within the table, and the load may be the event
pub load_as-requires : goal.load_as-requires
load_as-requires c = let can = can_load_past _ _ _ c.know.ensures.sound c.requires.may_load in
    let low = known_low _ _ c.know.ensures.sound can.known in let known = c.know.ensures.words in
    let same = ap (λ t. t.words) c.requires.same_table in let base = c.from.ensures in
    let e : c.args.node + inner_status_offset ≡ c.from.result + 0 = omega arith in (
      c.requires.same_table,
      (
        omega arith,
        subst (λ n. CanLoadAs c.args.token.now.view n (past_of c.args.token.now.view c.args.pair)) e can,
      ),
    )
