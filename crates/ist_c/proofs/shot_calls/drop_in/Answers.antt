-- The handle of a shot holds its pass; a handle of something else is as before.
use Rattle.std.proofs.Common.{sym, ◌∙◌}
use Rattle.ist_c.proofs.CallLemmas.{dropped_shot, dropped_none}
use Rattle.ist_c.proofs.shot_calls.drop_in.Goals as goal

pub returns-in-Shot : goal.returns-in-Shot
returns-in-Shot c = record {
  drops = dropped_shot c.args.held.now c.in-Shot.shot c.into_pass.result
      (sym c.replace.ensures.value ∙ c.in-Shot.is) c.into_pass.ensures.value;
}

pub returns-in_default : goal.returns-in_default
returns-in_default c =
    record { drops = dropped_none c.args.held.now c.replace.result c.replace.ensures.value c.in_default.not-Shot }
