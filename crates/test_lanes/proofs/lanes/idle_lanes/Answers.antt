use Rattle.std.proofs.Common.{◌≡◌, [], ◌≤◌, None, length, rules}
use Rattle.std.proofs.lemmas.List.{map_push, append_assoc}
use Rattle.std.proofs.lemmas.List.Elements.{All-push}
use Rattle.tele_lanes.specs.declared.lanes.Lane.{Lane}
use Rattle.test_lanes.specs.declared.recorders.Recorder.{Recorder}
use Rattle.test_lanes.proofs.lanes.idle_lanes.Goals as goal

abbrev Idle : Type 0
Idle = Lane Recorder (Unit {0})

pub loop-mine-preserved : goal.loop-mine-preserved
loop-mine-preserved c = let old = c.loop-mine.invariant in let made = c.in_ok-idle_lane.ensures in record {
  tasks = let next = c.in-Some.ensures.steps in rw (c.in_ok-push.ensures.items, map_push, made.tasks, append_assoc) (search rules);
  empty = rw c.in_ok-push.ensures.items
      (All-push (λ (l : Idle). l.answers.list ≡ []) _ _ old.empty made.empty);
  room = rw c.in_ok-push.ensures.items
      (All-push (λ (l : Idle). length l.tasks ≤ l.answers.room) _ _ old.room made.room);
  no_calls = rw c.in_ok-push.ensures.items
      (All-push (λ (l : Idle). l.port.told.items ≡ []) _ _ old.no_calls made.no_calls);
  unrefused = rw c.in_ok-push.ensures.items
      (All-push (λ (l : Idle). l.port.refused ≡ None) _ _ old.unrefused made.unrefused);
}
