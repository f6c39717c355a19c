-- The caller's entry gets the node.
use Rattle.std.proofs.Common.{refl, sym, rules}
use Rattle.check_events.specs.declared.pasts.LastUpdate.{LastUpdate}
use Rattle.check_state.proofs.WayTableLemmas.{counted_in, inserted_more}
use Rattle.check_state.proofs.updating.note_count.Goals as goal

pub returns-in_ok-insert-in-Some : goal.returns-in_ok-insert-in-Some
returns-in_ok-insert-in-Some c = let last = c.in-Some.last.now in
    let next : LastUpdate = record { change = last.change; counted = c.insert.new.self } in
    let new = c.get_mut.follows.lender next in
    let more = inserted_more last.counted c.insert.new.self c.args.node
    c.in_ok-insert-in-Some.ensures.updates in
    let written = (c.get_mut.follows.holds next).3 (search rules) in record {
      exact = counted_in c.args.caller c.args.node c.args.updates.now new last next
          (sym c.in-Some.ensures.value) refl more written;
    }
