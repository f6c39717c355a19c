use Rattle.std.proofs.Common.{ap, subst, sym, ◌∙◌, rules}
use Rattle.ist_rule.specs.declared.view.View.{View}
use Rattle.ist_updates.specs.Asking.{MayEnd, command_for}
use Rattle.test_rebuilds.proofs.UpdateLemmas.{ended_pass, may_end}
use Rattle.test_rebuilds.proofs.updates.update.Goals as goal

-- the call may end as it is answered
pub end_call-requires : goal.end_call-requires
end_call-requires c =
    let done = c.in-Ok.ensures in (
      ap (λ (v : View). v.table) done.went.went.same
          ∙ ap (λ (v : View). v.table) c.ask.ensures.begun.view ∙ c.requires.pass.1,
      may_end c.args.who.now c.ask.new.who c.apply.new.who (command_for c.args.key c.args.value)
          c.ask.ensures.sound c.requires.pass.0 c.ask.ensures.begun c.ask.ensures.number done.went
          done.number done.caller c.reply.result
          (subst (MayEnd c.apply.new.who (command_for c.args.key c.args.value))
          (sym c.reply.ensures.value) (done.answered c.in_default.not-Unmet)),
    )

-- and its caller is in none then
pub returns-in_default : goal.returns-in_default
returns-in_default c = record {
  pass = λ _. (
    ended_pass c.apply.new.who c.end_call.new.token _ c.in-Ok.ensures.caller c.in-Ok.ensures.refused
        c.end_call.ensures.ended,
    search rules,
  );
}
