use Rattle.std.proofs.Common.{refl, ap, ◌∙◌, arith}
use Rattle.std.proofs.lemmas.List.{take_all}
use Rattle.ist_rows.specs.RowTerms.{Caller, spares_of, row_of, filled_with}
use Rattle.ist_rows.proofs.FillingLemmas.{stored_step}
use Rattle.ist_rows.proofs.filling.fill_row.Goals as goal

-- before the first word nothing was done
pub loop-word-init : goal.loop-word-init
loop-word-init c = (refl, refl, c.requires.caller.0)

-- the next one is stored
pub loop-word-preserved : goal.loop-word-preserved
loop-word-preserved c =
    let stored = stored_step c.args.who.now c.loop-word.who c.fill.new.who c.args.base c.loop-word.at
    c.loop-word.word-index c.args.words.now c.loop-word-test.true c.loop-word.invariant.0
    c.loop-word.invariant.1 c.fill.ensures.stored in (omega arith, stored, c.fill.ensures.caller)

-- it lies in the row of this kind
pub fill-requires-clause-held : goal.fill-requires-clause-held
fill-requires-clause-held c =
    let same = ap (λ (x : Caller). row_of c.args.kind (spares_of x)) c.loop-word.invariant.1 in
    let held = c.loop-word.invariant.2.rows c.args.kind c.args.base (same ∙ c.requires.row) in
    record { size = _; held = held; within = omega arith }

pub fill-requires-clause-caller : goal.fill-requires-clause-caller
fill-requires-clause-caller c = (
  c.loop-word.invariant.2,
  ap (λ (x : Caller). x.token.view.table) c.loop-word.invariant.1 ∙ c.requires.caller.1,
)

-- after the last one all are stored
pub returns-clause-stored : goal.returns-clause-stored
returns-clause-stored c = c.loop-word.invariant.1
    ∙ ap {B = Caller} (filled_with c.args.who.now c.args.base) (take_all _ _ c.loop-word-test.false)
