use Rattle.std.proofs.Common.{sym}
use Rattle.ist_core.specs.WordTerms.{start}
use Rattle.check_state.proofs.WayTableLemmas.{way_added}
use Rattle.check_state.proofs.ways.add_way.Goals as goal

pub returns-in_ok-insert-in-Some-way_by : goal.returns-in_ok-insert-in-Some-way_by
returns-in_ok-insert-in-Some-way_by c = record {
  exact = λ pairs words log lawful mirrors k h.
      way_added (start pairs words) log c.args.ways.now c.insert.new.self c.args.row
      c.in-Some-way_by.way c.in_ok-insert-in-Some-way_by.ensures.updates
      (c.in-Some-way_by.ensures.exact pairs words log lawful mirrors h c.args.slots.now
      c.args.row k (sym c.in-Some.ensures.value))
      h;
}
