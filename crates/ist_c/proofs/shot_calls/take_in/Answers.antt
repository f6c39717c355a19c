-- A pass took a shot, or was refused; a handle of something else is as before.
use Rattle.std.proofs.Common.{sym, ◌∙◌}
use Rattle.ist_c.proofs.CallLemmas.{took_shot, took_none}
use Rattle.ist_c.proofs.shot_calls.take_in.Goals as goal

pub returns-in-Pass : goal.returns-in-Pass
returns-in-Pass c = record {
  takes = took_shot c.args.held.now c.take.new.held c.in-Pass.pass c.args.words c.take.result
      c.args.short.now c.take.new.short (sym c.replace.ensures.value ∙ c.in-Pass.is) c.take.ensures.takes;
}

pub returns-in_default : goal.returns-in_default
returns-in_default c = record {
  takes = took_none c.args.held.now c.replace.result c.args.words c.args.short.now c.replace.ensures.value
      c.in_default.not-Pass;
}
