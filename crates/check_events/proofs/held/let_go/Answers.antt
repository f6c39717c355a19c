use Rattle.std.proofs.Common.{take, subst}
use Rattle.std.proofs.lemmas.List.{take_all, take_more}
use Rattle.ist_core.specs.LogTerms.{without}
use Rattle.check_events.specs.Holding.{TableHolds}
use Rattle.check_events.proofs.LetGoLemmas.{keeps_none, keeps_last}
use Rattle.check_events.proofs.held.let_go.Goals as goal

pub loop-base-init : goal.loop-base-init
loop-base-init c = λ held k. keeps_none _ held k

pub loop-base-preserved : goal.loop-base-preserved
loop-base-preserved c = λ held k. keeps_last _ held (take c.loop-base.base-index c.args.bases.now) _ _
    (take_more c.args.bases.now c.loop-base.base-index _ c.loop-base-test.true)
    (c.let_go_one.ensures.exact _ (c.loop-base.invariant held k))

pub returns : goal.returns
returns c = record {
  exact = λ held k. subst (λ bs. TableHolds c.loop-base.table (without bs held))
      (take_all c.loop-base.base-index c.args.bases.now c.loop-base-test.false)
      (c.loop-base.invariant held k);
}
