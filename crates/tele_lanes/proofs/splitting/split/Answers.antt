use Rattle.std.proofs.Common.{arith, ap, length, ◌∙◌, ◌%◌}
use Rattle.tele_lanes.proofs.SplitLemmas.{length-all_lane_tasks, all_lane_tasks-more}
use Rattle.tele_lanes.proofs.splitting.split.Goals as goal

-- there is a list for the task's lane
pub index_mut-requires : goal.index_mut-requires
index_mut-requires c = omega (arith, ap length c.loop-task.invariant ∙ length-all_lane_tasks _ _)

-- the task goes to the end of its lane's list
pub loop-task-preserved : goal.loop-task-preserved
loop-task-preserved c =
    all_lane_tasks-more _ _ _ _ _ _ _ _ c.loop-task.invariant c.loop-task-test.true
    (c.lane_of-lane.ensures ∙ ap (λ key. key % c.args.workers) c.timestamp_of.ensures) (omega arith)
    c.index_mut.ensures.value c.in_ok-push.ensures.pushed
