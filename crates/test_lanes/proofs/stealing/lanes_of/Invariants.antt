use Rattle.std.proofs.Common.{◌≡◌, [], ◌≤◌, All, None, length, map}
use Rattle.std.specs.List.{range_with_len}
use Rattle.test_lanes.proofs.stealing.lanes_of.Given as goal

abbrev pub invariant-loop-count : goal.invariant-loop-count
invariant-loop-count l = record {
  len : length l.lanes.items ≡ l.count-index;
  numbers : map (λ lane. lane.number) l.lanes.items
      ≡ map (λ k. k) (range_with_len 0 (length l.lanes.items));
  empty : All (λ lane. lane.answers.list ≡ []) l.lanes.items;
  room : All (λ lane. length lane.tasks ≤ lane.answers.room) l.lanes.items;
  no_calls : All (λ lane. lane.port.told.items ≡ []) l.lanes.items;
  unrefused : All (λ lane. lane.port.refused ≡ None) l.lanes.items;
}
