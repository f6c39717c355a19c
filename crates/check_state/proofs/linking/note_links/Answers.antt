use Rattle.std.proofs.Common.{sym}
use Rattle.std.proofs.lemmas.Result.{on_ok_weaker}
use Rattle.check_events.proofs.DecisionLemmas.{change_stands}
use Rattle.check_state.proofs.CallingLemmas.{brings_row}
use Rattle.check_state.proofs.linking.note_links.Goals as goal

pub returns-in-Some-inner_of_word : goal.returns-in-Some-inner_of_word
returns-in-Some-inner_of_word c = record {
  exact = on_ok_weaker c.note_row.result
      (λ exact t h once place. let row = c.in-Some.row.now in
      let child = c.in-Some-inner_of_word.child in
      let stands =
      change_stands c.args.replica.now t c.args.change h row (sym c.in-Some.ensures.value) in
      let to = c.in-Some-inner_of_word.ensures.exact.0 in
      brings_row t c.args.change child row stands to c.args.slots.now c.note_row.new.slots
      (exact t h once (place row child stands to)))
      c.note_row.ensures.exact;
}
