use Rattle.std.proofs.Common.{◌≡◌, ◌+◌, ◌<◌, ◌≤◌, [], All, length, vec_capacity, IsPermutation}
use Rattle.crossbeam_deque.specs.Handles.{view, IsPassOf, SameWorker, worker_deque, worker_view}
use Rattle.tele_steal.specs.Tallies.{IsOwners, of_worker}
use Rattle.tele_steal.proofs.collecting.hire_all.Given as goal

abbrev pub invariant-loop-bag : goal.invariant-loop-bag
invariant-loop-bag g l = record {
  same : SameWorker l.initial.owner l.owner;
  owner : IsOwners (worker_view l.owner);
  out : (worker_view l.owner).out ≡ length l.hands.items;
  settled : IsPermutation (worker_view l.owner).put (worker_view l.owner).back;
  anew : 0 < length l.hands.items → ((worker_view l.owner).put ≡ [])
      × ((worker_view l.owner).back ≡ []);
  count : length l.hands.items + length l.bags.items ≡ length l.initial.bags.items;
  bags_empty : All (λ b. b.items ≡ []) l.bags.items;
  bags_wide : All (λ b. 64 ≤ vec_capacity b) l.bags.items;
  bag_room : vec_capacity l.bags ≡ vec_capacity l.initial.bags;
  hand_room : vec_capacity l.hands ≡ vec_capacity l.initial.hands;
  tables : All (λ h. IsPassOf (worker_deque l.initial.owner) h.pass) l.hands.items;
  workers : All (λ h. view h.pass ≡ of_worker []) l.hands.items;
  empty : All (λ h. h.bag.items ≡ []) l.hands.items;
  wide : All (λ h. 64 ≤ vec_capacity h.bag) l.hands.items;
}

abbrev pub decreases-loop-bag : goal.decreases-loop-bag
decreases-loop-bag g l = length l.bags.items
