use Rattle.std.proofs.Common.{rules}
use Rattle.ist_rebuild.proofs.RefusalLemmas.{buildable_went, passed_more}
use Rattle.ist_rebuild.proofs.FewLemmas.{few_marked, rebuilt}
use Rattle.ist_rebuild.proofs.EventLemmas.{helped_loads, helped_more, ready_loads, started_went}
use Rattle.ist_rebuild.proofs.helping.help_rebuild.Goals as goal

pub returns-in_err-build_out-clause-helped : goal.returns-in_err-build_out-clause-helped
returns-in_err-build_out-clause-helped c = search (rules, helped_more)

pub returns-in_err-build_out-clause-finished : goal.returns-in_err-build_out-clause-finished
returns-in_err-build_out-clause-finished c = search (rules, buildable_went)

pub returns-in_err-build_out-clause-full : goal.returns-in_err-build_out-clause-full
returns-in_err-build_out-clause-full c =
    passed_more c.from_residual.result _ _ _ _ c.args.rebuild _ c.from_residual.ensures.1
    c.mark_target.ensures.helped.on.gone.went c.in_err-build_out.ensures.full

pub returns-in_err-build_out-clause-few : goal.returns-in_err-build_out-clause-few
returns-in_err-build_out-clause-few c k told =
    let out = few_marked _ _ _ c.args.rebuild c.mark_target.ensures.none c.mark_target.ensures.helped
    c.build_out.ensures.helped c.build_out.result c.build_out.ensures.few k told in
    search rules

pub plan_of-plan-requires-clause-started : goal.plan_of-plan-requires-clause-started
plan_of-plan-requires-clause-started c = search (rules, started_went)

pub finish-requires-clause-ready : goal.finish-requires-clause-ready
finish-requires-clause-ready c =
    (ready_loads _ _ _ c.build_out.ensures.helped c.plan_of-plan.ensures.seen, search rules)

-- the steps were steps of help
pub returns : goal.returns
returns c = let m = c.mark_target.ensures in
    let plan = helped_loads _ _ c.plan_of-plan.new.token c.build_out.ensures.helped c.plan_of-plan.ensures.seen in
    let i = rebuilt _ _ _ c.args.rebuild m.none m.helped c.build_out.ensures.helped c.finish.result _
    c.finish.new.who _ _ c.in_ok-build_out.ensures.few c.plan_of-plan.ensures.seen c.finish.ensures.helped
    c.finish.ensures.few c.plan_of-plan.ensures.rebuild c.finish.ensures.full in
    search (rules, buildable_went)
