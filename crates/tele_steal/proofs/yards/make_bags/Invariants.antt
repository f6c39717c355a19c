use Rattle.std.proofs.Common.{◌≡◌, ◌-◌, ◌≤◌, [], All, length, vec_capacity}
use Rattle.tele_steal.proofs.yards.make_bags.Given as goal

abbrev pub invariant-loop-alloc : goal.invariant-loop-alloc
invariant-loop-alloc g l = record {
  few : length l.bags.items ≤ l.workers;
  room : vec_capacity l.bags ≡ l.workers;
  empty : All (λ b. b.items ≡ []) l.bags.items;
  wide : All (λ b. 64 ≤ vec_capacity b) l.bags.items;
}

abbrev pub decreases-loop-alloc : goal.decreases-loop-alloc
decreases-loop-alloc g l = l.workers - length l.bags.items
