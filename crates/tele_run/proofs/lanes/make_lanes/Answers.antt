use Rattle.std.proofs.Common.{◌≡◌, ◌∷◌, ◌++◌, ◌<◌, length, map, sym, ap, ◌∙◌, arith}
use Rattle.std.proofs.lemmas.List.{map_push, append_assoc}
use Rattle.tele_lanes.specs.Lanes.{all_lane_tasks}
use Rattle.tele_lanes.proofs.SplitLemmas.{length-all_lane_tasks}
use Rattle.tele_run.specs.Ends.{TreeLane}
use Rattle.tele_run.proofs.LaneLemmas.{one_to_come, one_made}
use Rattle.tele_run.proofs.lanes.make_lanes.Goals as goal
use Rattle.tele_run.proofs.lanes.make_lanes.Goals.{In-Some}

-- there are fewer lanes than there will be
fewer : (c : In-Some) → length c.loop-mine.lanes.items < c.args.count
fewer c =
    let less : length c.loop-mine.lanes.items < length (all_lane_tasks c.args.count c.args.tasks.now)
    = one_to_come (λ (l : TreeLane). l.tasks) _ _ _ _ _ c.loop-mine.invariant.tasks
    c.in-Some.ensures.steps.0 in
    omega (arith, less, length-all_lane_tasks c.args.count c.args.tasks.now)

pub overflow_cast-number : goal.overflow_cast-number
overflow_cast-number c =
    let less = fewer (goal.at.overflow_cast-number c).In-Some in let made = c.loop-mine.lanes.ok.0 in
    record { fits = omega (arith, less, c.requires.at_most, made, c.len-number.ensures) }

pub make_lane-requires-clause-few : goal.make_lane-requires-clause-few
make_lane-requires-clause-few c =
    let less = fewer (goal.at.make_lane-requires-clause-few c).In-Some in
    omega (arith, less, c.requires.at_most, c.loop-mine.invariant.made.made)

-- one more lane was made
pub loop-mine-preserved : goal.loop-mine-preserved
loop-mine-preserved c =
    let lane = c.in_ok-make_lane.ensures in let items = c.in_ok-push.ensures.items in record {
      tasks = let next = c.in-Some.ensures.steps.0 in rw (items, map_push, lane.tasks, append_assoc)
          (ap (λ ts. map (λ (l : TreeLane). l.tasks) c.loop-mine.lanes.items ++ ts) (sym next)
          ∙ c.loop-mine.invariant.tasks);
      made = rw items (one_made _ _ _ _ _ _ c.loop-mine.invariant.made
          (lane.lane_number ∙ c.len-number.ensures ∙ c.loop-mine.lanes.ok.0) lane.fresh lane.tree
          lane.number lane.same_tree lane.made lane.taken);
    }
