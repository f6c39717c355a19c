use Rattle.std.proofs.Common.{◌+◌, ◌∙◌, ap, arith}
use Rattle.ist_rule.proofs.EventLemmas.{looked_goes_on}
use Rattle.ist_find.proofs.LoadLemmas.{may_load}
use Rattle.ist_find.proofs.ReadLemmas.{change_on, side_told}
use Rattle.ist_find.proofs.reading.side.Goals as goal

-- the change lies within the table
pub load-decision-requires : goal.load-decision-requires
load-decision-requires c =
    let may = may_load c.know.ensures.sound c.know.ensures.words c.requires.row.1 c.args.base
    c.requires.row.0.published 0 (omega arith) _ (ap (λ n. n + 0) c.from.ensures) in
    record { same_table = c.requires.row.1; within = may.0; no_walk = may.1 }

pub load-requires : goal.load-requires
load-requires c = let g = looked_goes_on _ _ _ _ c.load-decision.ensures.looked in
    let r = change_on _ _ g c.args.base c.requires.row.0 in
    let same = ap (λ v. v.table) g.same ∙ c.requires.row.1 in
    let may = may_load c.know-2.ensures.sound c.know-2.ensures.words same c.args.base r.published
    c.side_offset.result c.side_offset.ensures.within _ (ap (λ n. n + c.side_offset.result) c.from-2.ensures) in
    record { same_table = same; within = may.0; no_walk = may.1 }

-- the loads show how the slot reads
pub returns-clause-side : goal.returns-clause-side
returns-clause-side c = side_told _ _ _ c.args.word c.args.base _ _ _ _ c.requires.change
    c.requires.row.0 c.load-decision.ensures.looked (ap (λ n. n + 0) c.from.ensures)
    c.load.ensures.looked c.side_offset.result
    (ap (λ n. n + c.side_offset.result) c.from-2.ensures) c.side_offset.ensures.value
