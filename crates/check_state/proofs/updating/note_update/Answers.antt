-- A new entry is put under the owner of the change.
use Rattle.std.proofs.Common.{refl, sym}
use Rattle.ist_core.specs.TreeTerms.{IsUpdate}
use Rattle.check_events.proofs.DecisionLemmas.{change_stands}
use Rattle.check_builds.proofs.TableLemmas.{holds_none}
use Rattle.check_state.proofs.WayTableLemmas.{renewed}
use Rattle.check_state.proofs.updating.note_update.Goals as goal

pub returns-in_ok-insert-in-Some : goal.returns-in_ok-insert-in-Some
returns-in_ok-insert-in-Some c = let row = c.in-Some.row.now in let base = c.args.change in
    let kind : IsUpdate row.kind = c.is_update.ensures.exact.0 c.if-not-is_update.false in
    let updates = c.in_ok-insert-in-Some.ensures.updates in record {
      exact = λ t mirrors.
          let stands = change_stands c.args.replica.now t base mirrors row
          (sym c.in-Some.ensures.value) in
          renewed t base row stands c.args.updates.now c.insert.new.self _ kind refl
          (λ x. holds_none c.new.result x c.new.ensures.empty) updates;
    }
