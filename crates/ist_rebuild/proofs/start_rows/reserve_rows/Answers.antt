use Rattle.std.proofs.Common.{refl, rules}
use Rattle.ist_rebuild.specs.StartSteps.{HasReserved}
use Rattle.ist_rebuild.proofs.NeedLemmas.{refused_lacks, change_of_start, rebuild_of_start}
use Rattle.ist_rebuild.proofs.StartReservedLemmas.{rebuild_short, change_short, reserved_more, row_reserved}
use Rattle.ist_rebuild.proofs.start_rows.reserve_rows.Goals as goal
use Rattle.ist_rebuild.proofs.start_rows.reserve_rows.Goals.{After-reserve, After-reserve-2}

-- after the reserving of the rebuild's row, and then of the change's
first : (c : After-reserve) → HasReserved c.args.who.now c.reserve.new.who
first c = let e = c.reserve.ensures in
    row_reserved _ _ _ _ _ e.held e.reserved e.full rebuild_of_start (λ base own. (refl, refl))
    c.know.ensures.sound c.requires.caller.0 c.requires.quiet e.caller.0 e.number

both : (c : After-reserve-2) → HasReserved c.args.who.now c.reserve-2.new.who
both c = let one = first (goal.at.After-reserve-2 c).After-reserve in let e = c.reserve-2.ensures in
    reserved_more _ _ _ one (row_reserved _ _ _ _ _ e.held e.reserved e.full change_of_start
    (λ base own. (refl, refl)) one.went.sound one.caller one.quiet e.caller.0 e.number)

pub returns-in_err-rebuild : goal.returns-in_err-rebuild
returns-in_err-rebuild c = let one = first (goal.at.returns-in_err-rebuild c).After-reserve in
    let short = rebuild_short _ _ _ _ c.in_err-rebuild.ensures.full.cause in
    let lacks = refused_lacks _ _ _ _ _ c.in_err-rebuild.ensures.full in search rules

pub returns-in_err-change : goal.returns-in_err-change
returns-in_err-change c = let one = first (goal.at.returns-in_err-change c).After-reserve in
    let two = both (goal.at.returns-in_err-change c).After-reserve-2 in
    let short = change_short _ _ _ _ _ one.went c.in_err-change.ensures.full.cause in
    let lacks = refused_lacks _ _ _ _ _ c.in_err-change.ensures.full in search rules

pub returns-clause-reserved : goal.returns-clause-reserved
returns-clause-reserved c = both (goal.at.returns-clause-reserved c).After-reserve-2
