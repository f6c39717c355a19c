use Rattle.std.proofs.Common.{sym, subst, arith, get_or}
use Rattle.std.specs.List.Sorted.{IsStrictlyIncreasing}
use Rattle.tele_lanes.specs.Lines.{task_lines, ShareNoLine}
use Rattle.tele_lanes.specs.Lanes.{lane_tasks, all_lane_tasks}
use Rattle.tele_lanes.proofs.SplitLemmas.{get_or-all_lane_tasks, length-all_lane_tasks, lane_tasks-rising, lane_tasks-apart, HaveOwnLines-all_lane_tasks}
use Rattle.tele_lanes.proofs.laws.lanes_can_be_gathered.Goals as goal

pub returns-clause-own_lines : goal.returns-clause-own_lines
returns-clause-own_lines c = λ workers tasks up. HaveOwnLines-all_lane_tasks workers tasks up

pub returns-clause-rising : goal.returns-clause-rising
returns-clause-rising c = λ workers tasks up k d h.
    subst (λ ts. IsStrictlyIncreasing (task_lines ts))
    (sym (get_or-all_lane_tasks workers k tasks d (omega (arith, length-all_lane_tasks workers tasks))))
    (lane_tasks-rising workers k tasks up)

pub returns-clause-apart : goal.returns-clause-apart
returns-clause-apart c = λ workers tasks up i j d lt h. let lists = all_lane_tasks workers tasks in
    subst (λ ts. ShareNoLine ts (get_or lists j d))
    (sym (get_or-all_lane_tasks workers i tasks d (omega (arith, length-all_lane_tasks workers tasks))))
    (subst (λ ts. ShareNoLine (lane_tasks workers i tasks) ts)
    (sym (get_or-all_lane_tasks workers j tasks d (omega (arith, length-all_lane_tasks workers tasks))))
    (lane_tasks-apart workers i j tasks up (λ e. omega arith)))
