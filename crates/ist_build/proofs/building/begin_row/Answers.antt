use Rattle.std.proofs.Common.{rules}
use Rattle.ist_build.proofs.BuildingLemmas.{next_row, row_refused}
use Rattle.ist_build.proofs.HalfBuiltLemmas.{midway_opened}
use Rattle.ist_build.proofs.RowOpenedLemmas.{reserved_held}
use Rattle.ist_build.proofs.building.begin_row.Goals as goal

pub reserve_inner-requires-clause-next : goal.reserve_inner-requires-clause-next
reserve_inner-requires-clause-next c =
    next_row c.args.who.now _ _ c.requires.several c.requires.degree_is c.requires.due

pub returns-in_err-base-clause-refused : goal.returns-in_err-base-clause-refused
returns-in_err-base-clause-refused c = let e = c.reserve_inner.ensures in
    let r = row_refused c.args.who.now c.reserve_inner.new.who _ _ _ _ c.requires.several
    c.requires.degree_is e.caller e.number e.rows c.in_err-base.ensures.full
    c.in_err-base.ensures.refused in
    search rules

pub open_row-requires-clause-held : goal.open_row-requires-clause-held
open_row-requires-clause-held c =
    reserved_held c.args.who.now c.reserve_inner.new.who c.know.ensures.sound
    c.reserve_inner.ensures.number _ _ c.in_ok-base.ensures.reserved

pub returns-clause-begun : goal.returns-clause-begun
returns-clause-begun c =
    midway_opened c.args.who.now c.reserve_inner.new.who c.open_row.new.who c.args.leaves.now
    c.in_ok-base.base c.args.degree c.know.ensures.sound c.requires.caller.0.mine c.requires.several
    c.requires.degree_is c.reserve_inner.ensures.number c.reserve_inner.ensures.rows
    c.in_ok-base.ensures.reserved c.in_ok-base.ensures.taken c.open_row.ensures.stored
    c.open_row.ensures.caller c.open_row.ensures.sound
