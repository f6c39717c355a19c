use Rattle.std.proofs.Common.{◌+◌, ◌<◌, ◌^◌, ap, arith}
use Rattle.ist_core.specs.WordTerms.{Inner}
use Rattle.ist_dcss.proofs.FieldLemmas.{row_low}
use Rattle.ist_find.proofs.LoadLemmas.{may_load}
use Rattle.ist_find.proofs.ReadLemmas.{target_told}
use Rattle.ist_find.proofs.reading.target.Goals as goal

-- the rebuild lies within the table
pub load-target-requires : goal.load-target-requires
load-target-requires c =
    let may = may_load c.know.ensures.sound c.know.ensures.words c.requires.row.1 c.args.base
    c.requires.row.0.published 0 (omega arith) _ (ap (λ n. n + 0) c.from.ensures) in
    record { same_table = c.requires.row.1; within = may.0; no_walk = may.1 }

-- so does its target, and the table is small
pub overflow_cast-result : goal.overflow_cast-result
overflow_cast-result c =
    let told = target_told _ _ c.args.word c.args.base _ _ c.requires.rebuild c.requires.row.0
    c.load-target.ensures.looked (ap (λ n. n + 0) c.from.ensures) in
    let r = told.found in
    let low = row_low _ c.know-2.ensures.sound c.load-target.result (Inner r.row) r.published 0
    (omega arith) in
    let place = low.0 in let small = low.1 in let h : c.load-target.result < 2 ^ 32 = omega arith in
    record { fits = h }

-- the load shows how the slot reads
pub returns-clause-target : goal.returns-clause-target
returns-clause-target c =
    target_told _ _ c.args.word c.args.base _ _ c.requires.rebuild c.requires.row.0
    c.load-target.ensures.looked (ap (λ n. n + 0) c.from.ensures)
