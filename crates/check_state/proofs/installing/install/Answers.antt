use Rattle.std.proofs.Common.{◌∙◌, Some, ap, refl}
use Rattle.ist_core.specs.WordTerms.{Change, change_of, with_row}
use Rattle.ist_core.specs.LogTerms.{with_fresh}
use Rattle.check_fairness.proofs.AnswerLemmas.{following}
use Rattle.check_state.proofs.PublishLemmas.{install_is}
use Rattle.check_state.proofs.installing.install.Goals as goal

pub returns-in_ok-put_change-in-Some : goal.returns-in_ok-put_change-in-Some
returns-in_ok-put_change-in-Some c = record {
  exact = λ t h. let change = c.in-Some.change in
      let fresh = record t { pieces = with_fresh t.pieces change (following c.args.rows.now) } in
      let whole = record fresh {
        pieces = with_row fresh.pieces c.args.base (Some (Change change));
      } in
      install_is c.set_slot.new.replica t c.args.base c.args.rows.now c.row-item.result change
      c.in-len1-up.len_at_least c.row-item.is
      (c.in-Some.ensures.value ∙ ap change_of c.as_slice.ensures.value)
      (c.set_slot.ensures.exact whole (c.in_ok-put_change-in-Some.ensures.exact fresh
      (c.in_ok-put_fresh-in-Some.ensures.exact t change refl h)));
}
