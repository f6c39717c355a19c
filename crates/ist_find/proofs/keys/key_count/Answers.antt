use Rattle.std.proofs.Common.{◌+◌, ap, arith}
use Rattle.ist_rule.proofs.EventLemmas.{looked_goes_on}
use Rattle.ist_find.proofs.LoadLemmas.{may_load, knows_row, degree_told}
use Rattle.ist_find.proofs.keys.key_count.Goals as goal

-- the row lies within the table
pub load-degree-requires : goal.load-degree-requires
load-degree-requires c =
    let may = may_load c.know.ensures.sound c.know.ensures.words c.requires.row.1 c.args.node
    c.requires.row.0.published 2 (omega arith) _ (ap (λ n. n + 2) c.from.ensures) in
    record { same_table = c.requires.row.1; within = may.0; no_walk = may.1 }

-- the degree is one more than the number of keys
pub overflow_sub-result : goal.overflow_sub-result
overflow_sub-result c =
    let is = degree_told _ c.know.ensures.sound c.args.node c.requires.row.0 _ _ _
    c.load-degree.ensures.looked (ap (λ n. n + 2) c.from.ensures) in
    omega arith

pub returns-clause-seen : goal.returns-clause-seen
returns-clause-seen c = looked_goes_on _ _ _ _ c.load-degree.ensures.looked

pub returns-clause-value : goal.returns-clause-value
returns-clause-value c =
    let is = degree_told _ c.know.ensures.sound c.args.node c.requires.row.0 _ _ _
    c.load-degree.ensures.looked (ap (λ n. n + 2) c.from.ensures) in
    omega arith

pub returns-clause-low : goal.returns-clause-low
returns-clause-low c =
    let is = degree_told _ c.know.ensures.sound c.args.node c.requires.row.0 _ _ _
    c.load-degree.ensures.looked (ap (λ n. n + 2) c.from.ensures) in
    let k = knows_row _ c.know.ensures.sound c.args.node c.requires.row.0 in
    omega (arith, k.low, k.small)
