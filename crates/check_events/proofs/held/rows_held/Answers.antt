use Rattle.std.proofs.Common.{◌∙◌, map, ap}
use Rattle.std.proofs.lemmas.Result.{IfOk-weaker}
use Rattle.check_events.proofs.LetGoLemmas.{values_by_base}
use Rattle.check_events.proofs.held.rows_held.Goals as goal

pub returns : goal.returns
returns c = record {
  value = IfOk-weaker c.rows_in_order.result _ _
      (λ rows is held k. is ∙ ap (map (λ e. e.1)) k.rows ∙ values_by_base held)
      c.rows_in_order.ensures.value;
}
