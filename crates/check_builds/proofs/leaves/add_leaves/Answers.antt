use Rattle.check_builds.proofs.GatherLemmas as gather
use Rattle.check_builds.proofs.leaves.add_leaves.Goals as goal

pub returns-then-not-branch : goal.returns-then-not-branch
returns-then-not-branch c = record {
  exact = λ t h. gather.no_row_gathers _ _ (rw c.if-not-branch.true at (c.in_ok-put_slots.ensures.exact t h));
}

pub loop-init : goal.loop-init
loop-init c = λ t h. gather.begun t.pieces _ _ _ _ c.new-waiting.ensures.items
    (rw c.if-not-branch.false at (c.in_ok-put_slots.ensures.exact t h))

pub returns-in-None : goal.returns-in-None
returns-in-None c = record {
  exact = λ t h. gather.none_left t.pieces _ _ _ _
      (gather.nothing_waits _ _ _ c.in-None.ensures.items c.in-None.ensures.rest c.in-None.ensures.cases.0)
      (c.loop.invariant t h);
}

pub returns-then-not-branch-2 : goal.returns-then-not-branch-2
returns-then-not-branch-2 c = let next = gather.next_waits _ _ _ c.in-Some.ensures.items in record {
  exact = λ t h. gather.left_lacks t.pieces _ _ _ _ (rw next at (c.loop.invariant t h))
      (rw c.if-not-branch-2.true at (c.in_ok-add_of_slot-in-Some.ensures.exact t h));
}

pub loop-preserved : goal.loop-preserved
loop-preserved c = λ t h. let next = gather.next_waits _ _ _ c.in-Some.ensures.items in
    gather.left_more t.pieces _ _ _ _ _ _ (rw next at (c.loop.invariant t h))
    (rw c.if-not-branch-2.false at (c.in_ok-add_of_slot-in-Some.ensures.exact t h))
