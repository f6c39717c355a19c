use Rattle.std.proofs.Common.{◌+◌, sym, subst, arith}
use Rattle.ist_rows.specs.RowTerms.{HoldsPlace}
use Rattle.ist_rows.specs.declared.callers.Caller.{Caller}
use Rattle.ist_build.proofs.RowOpenedLemmas.{holds_place}
use Rattle.ist_build.proofs.building.set_part.Goals as goal

pub fill-requires-clause-held : goal.fill-requires-clause-held
fill-requires-clause-held c = let less = c.requires.within in
    holds_place c.args.who.now c.args.base c.args.degree _ c.requires.held (omega arith)

pub fill-requires-then-j-gt0-clause-held : goal.fill-requires-then-j-gt0-clause-held
fill-requires-then-j-gt0-clause-held c = let less = c.requires.within in
    subst (λ (who : Caller). HoldsPlace who c.args.base (3 + c.args.j)) (sym c.fill.ensures.stored)
    (holds_place (record c.args.who.now { token = record c.args.who.now.token { view = _ } })
    c.args.base
    c.args.degree _ c.requires.held (omega arith))
