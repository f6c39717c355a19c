use Rattle.std.proofs.Common.{◌+◌, ◌∙◌, ap, arith}
use Rattle.ist_rule.proofs.EventLemmas.{looked_goes_on}
use Rattle.ist_find.proofs.LoadLemmas.{may_load}
use Rattle.ist_find.proofs.ReadLemmas.{leaf_on, other_told, value_told}
use Rattle.ist_find.proofs.reading.leaf_value.Goals as goal

-- the leaf lies within the table
pub load-requires : goal.load-requires
load-requires c =
    let may = may_load c.know.ensures.sound c.know.ensures.words c.requires.leaf.1 c.args.base
    c.requires.leaf.0.published 0 (omega arith) _ (ap (λ n. n + 0) c.from.ensures) in
    record { same_table = c.requires.leaf.1; within = may.0; no_walk = may.1 }

pub load-value-requires : goal.load-value-requires
load-value-requires c = let g = looked_goes_on _ _ _ _ c.load.ensures.looked in
    let r = leaf_on _ _ g c.args.base c.requires.leaf.0 in
    let same = ap (λ v. v.table) g.same ∙ c.requires.leaf.1 in
    let may = may_load c.know-2.ensures.sound c.know-2.ensures.words same c.args.base r.published 1
    (omega arith) _ (ap (λ n. n + 1) c.from-2.ensures) in
    record { same_table = same; within = may.0; no_walk = may.1 }

-- another key gives no value
pub returns-then-load-key-clause-value : goal.returns-then-load-key-clause-value
returns-then-load-key-clause-value c =
    other_told _ _ c.args.key c.args.base _ _ c.load.ensures.looked
    (ap (λ n. n + 0) c.from.ensures) c.if-load-key.true

-- and the key gives the value that was loaded
pub returns-clause-value : goal.returns-clause-value
returns-clause-value c = value_told _ _ _ c.args.key c.args.base _ _ _ _ c.load.ensures.looked
    (ap (λ n. n + 0) c.from.ensures) c.if-load-key.false c.load-value.ensures.looked
    (ap (λ n. n + 1) c.from-2.ensures)
