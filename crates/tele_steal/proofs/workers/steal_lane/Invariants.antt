use Rattle.std.proofs.Common.{◌≡◌}
use Rattle.crossbeam_deque.specs.Handles.{view, IsPassOf, stealer_deque}
use Rattle.tele_steal.proofs.workers.steal_lane.Given as goal

abbrev pub invariant-loop : goal.invariant-loop
invariant-loop g l = record {
  table : IsPassOf (stealer_deque l.thief) l.pass;
  same : view l.pass ≡ view l.initial.pass;
}
