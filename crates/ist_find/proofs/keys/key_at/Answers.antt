use Rattle.std.proofs.Common.{◌+◌, ◌<◌, ◌^◌, ap, arith}
use Rattle.ist_rule.proofs.EventLemmas.{looked_goes_on}
use Rattle.ist_find.proofs.LoadLemmas.{knows_row, key_told}
use Rattle.ist_find.proofs.keys.key_at.Goals as goal

-- the row lies within the table, which is small
pub overflow_add-j : goal.overflow_add-j
overflow_add-j c =
    let k = knows_row c.args.token.now.view c.know.ensures.sound c.args.node c.requires.row.0 in
    let h : c.args.j + 1 < 2 ^ 64 = omega arith in record { fits = h }

pub key_place-requires-clause-fits : goal.key_place-requires-clause-fits
key_place-requires-clause-fits c =
    let k = knows_row c.args.token.now.view c.know.ensures.sound c.args.node c.requires.row.0 in
    omega arith

pub load-requires-clause-within : goal.load-requires-clause-within
load-requires-clause-within c =
    let k = knows_row c.args.token.now.view c.know.ensures.sound c.args.node c.requires.row.0 in
    let same = ap (λ t. t.words) c.requires.row.1 in omega arith

pub load-requires-clause-no_walk : goal.load-requires-clause-no_walk
load-requires-clause-no_walk c at =
    let k = knows_row c.args.token.now.view c.know.ensures.sound c.args.node c.requires.row.0 in
    let above = k.above in let place = c.key_place.ensures.value in absurd (omega arith)

-- one load was made, and it gives the key
pub returns-clause-seen : goal.returns-clause-seen
returns-clause-seen c = looked_goes_on _ _ _ _ c.load.ensures.looked

pub returns-clause-value : goal.returns-clause-value
returns-clause-value c =
    key_told _ c.args.node c.requires.row.0 c.args.j _ _ _ c.load.ensures.looked
    c.key_place.ensures.value c.requires.within
