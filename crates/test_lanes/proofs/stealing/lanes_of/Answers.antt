use Rattle.std.proofs.Common.{◌≡◌, [], ◌≤◌, None, length, rules}
use Rattle.std.proofs.lemmas.List.Elements.{All-push}
use Rattle.tele_lanes.specs.declared.lanes.Lane.{Lane}
use Rattle.test_lanes.specs.declared.recorders.Recorder.{Recorder}
use Rattle.tele_steal.proofs.OrderLemmas.{IsStrictlyIncreasing-from_0, counted_more}
use Rattle.test_lanes.proofs.stealing.lanes_of.Goals as goal

abbrev Given : Type 0
Given = Lane Recorder (Unit {0})

pub loop-count-preserved : goal.loop-count-preserved
loop-count-preserved c = let old = c.loop-count.invariant in let made = c.in_ok-one_lane.ensures in
    record {
      len = search rules;
      numbers = rw c.in_ok-push.ensures.items
          (counted_more (λ (l : Given). l.number) _ _ old.numbers (search rules));
      empty = rw c.in_ok-push.ensures.items
          (All-push (λ (l : Given). l.answers.list ≡ []) _ _ old.empty made.empty);
      room = rw c.in_ok-push.ensures.items
          (All-push (λ (l : Given). length l.tasks ≤ l.answers.room) _ _ old.room made.room);
      no_calls = rw c.in_ok-push.ensures.items
          (All-push (λ (l : Given). l.port.told.items ≡ []) _ _ old.no_calls made.no_calls);
      unrefused = rw c.in_ok-push.ensures.items
          (All-push (λ (l : Given). l.port.refused ≡ None) _ _ old.unrefused made.unrefused);
    }

pub returns-clause-numbers : goal.returns-clause-numbers
returns-clause-numbers c = rw c.loop-count.invariant.numbers
    (IsStrictlyIncreasing-from_0 (length c.loop-count.lanes.items))
