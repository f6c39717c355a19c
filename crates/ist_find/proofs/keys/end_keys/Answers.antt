use Rattle.std.proofs.Common.{◌-◌, ◌∙◌, length, get_or, ap, ap₂, arith, rules}
use Rattle.ist_rule.proofs.EventLemmas.{goes_on_more}
use Rattle.ist_find.proofs.LoadLemmas.{row_on, keys_on}
use Rattle.ist_find.proofs.keys.end_keys.Goals as goal

-- the row is published still, with the same keys
pub key_at-last-requires-clause-row : goal.key_at-last-requires-clause-row
key_at-last-requires-clause-row c =
    (row_on _ _ c.key_at-first.ensures.seen c.args.node c.requires.row.0, search rules)

pub key_at-last-requires-clause-within : goal.key_at-last-requires-clause-within
key_at-last-requires-clause-within c =
    let same = ap length (keys_on _ _ c.key_at-first.ensures.seen c.args.node c.requires.row.0) in
    let count = c.requires.count in let some = c.requires.some in omega arith

pub returns-clause-seen : goal.returns-clause-seen
returns-clause-seen c = goes_on_more _ _ _ c.key_at-first.ensures.seen c.key_at-last.ensures.seen

pub returns-clause-last : goal.returns-clause-last
returns-clause-last c =
    let same = keys_on _ _ c.key_at-first.ensures.seen c.args.node c.requires.row.0 in
    c.key_at-last.ensures.value
    ∙ ap₂ (λ ks n. get_or ks n 0) same (ap (λ n. n - 1) c.requires.count)
