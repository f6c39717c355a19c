use Rattle.ist_scan.proofs.CallerLemmas.{total_before}
use Rattle.ist_scan.proofs.ShotLemmas.{GoesOnWell, frozen_on}
use Rattle.ist_scan.proofs.callers.total_then_remove.Goals as goal

pub total-total-requires-clause-frozen : goal.total-total-requires-clause-frozen
total-total-requires-clause-frozen c =
    let on : GoesOnWell c.take.new.pass c.remove.new.pass
    = record {
      tree = c.remove.ensures.worked.seen.tree;
      seen = c.remove.ensures.worked.seen.seen;
      lawful = c.know.ensures.lawful;
    } in
    frozen_on c.take.new.pass c.remove.new.pass on c.in_ok-shot.shot c.in_ok-shot.ensures.frozen

pub returns : goal.returns
returns c = record {
  before = total_before c.args.pass.now c.take.new.pass c.remove.new.pass c.total-total.new.pass
      c.remove.ensures.worked.seen c.know.ensures.lawful c.total-total.ensures.looked
      c.know-2.ensures.lawful c.in_ok-shot.shot c.args.first c.args.last c.args.key
      c.in_ok-remove.field-0 c.total-total.result c.in_ok-shot.ensures.taken c.take.ensures.calls
      c.in_ok-remove.ensures.updated.added c.total-total.ensures.total;
}
