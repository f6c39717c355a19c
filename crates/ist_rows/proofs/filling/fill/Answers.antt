use Rattle.std.proofs.Common.{◌+◌, ◌<◌, ◌^◌, sym, ap, subst, arith}
use Rattle.ist_rule.specs.RuleTerms.{IsOwn}
use Rattle.ist_rows.proofs.CallerGoingLemmas.{place_low, words_low}
use Rattle.ist_rows.proofs.filling.fill.Goals as goal

-- the place lies within the table, so that the sum is small
pub overflow_add-from : goal.overflow_add-from
overflow_add-from c =
    let it = place_low _ _ _ c.know.ensures.sound c.requires.caller.0 c.requires.held in
    let low = it.1 in let all = words_low _ c.know.ensures.sound in let base = c.from.ensures in
    let h : c.from.result + c.args.at < 2 ^ 64 = omega arith in record { fits = h }

pub store-requires-clause-within : goal.store-requires-clause-within
store-requires-clause-within c =
    let it = place_low _ _ _ c.know.ensures.sound c.requires.caller.0 c.requires.held in
    let low = it.1 in let base = c.from.ensures in let known = c.know.ensures.words in
    let same = ap (λ t. t.words) c.requires.caller.1 in omega arith

-- the place is in an own row
pub store-requires-clause-own : goal.store-requires-clause-own
store-requires-clause-own c =
    subst (λ n. IsOwn c.args.who.now.token.view (n + c.args.at)) (sym c.from.ensures)
    (place_low _ _ _ c.know.ensures.sound c.requires.caller.0 c.requires.held).0
