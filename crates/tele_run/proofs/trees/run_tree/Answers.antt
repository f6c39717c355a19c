use Rattle.std.proofs.Common.{List, map, sym, ap, subst, ◌∙◌, length, arith}
use Rattle.std.specs.Prelude.{Result, Ok, Err, IfOk}
use Rattle.std.proofs.lemmas.List.{length-map}
use Rattle.tele_lanes.specs.Lanes.{HaveOwnLines}
use Rattle.tele_lanes.proofs.SplitLemmas.{length-all_lane_tasks}
use Rattle.tele_run.specs.Ends.{TreeLane}
use Rattle.tele_run.proofs.LaneLemmas.{numbers_rise}
use Rattle.tele_run.proofs.PutLemmas.{own_lines, its_tree, came_to}
use Rattle.tele_run.proofs.trees.run_tree.Goals as goal

-- the numbers of the lanes are strictly increasing, and there are no more than may be stolen
pub run_team-requires-clause-numbers : goal.run_team-requires-clause-numbers
run_team-requires-clause-numbers g c κs within =
    numbers_rise _ _ c.in_ok-fresh.ensures.made.lane_numbers

pub run_team-requires-clause-few : goal.run_team-requires-clause-few
run_team-requires-clause-few g c κs within =
    let fresh : List TreeLane = c.in_ok-fresh.fresh.items in
    let long = sym (length-map fresh (λ (l : TreeLane). l.tasks))
    ∙ ap length c.in_ok-fresh.ensures.tasks
    ∙ length-all_lane_tasks c.lane_count.result c.args.tasks.now in
    omega (arith, long, c.lane_count.ensures.at_most)

-- lanes that were split share no line
pub gather_all-came-requires-clause-own_lines : goal.gather_all-came-requires-clause-own_lines
gather_all-came-requires-clause-own_lines g c = let ran = c.in_ok-lanes.ensures in
    let made = c.in_ok-fresh.ensures in
    subst HaveOwnLines (sym (ap (map (λ (l : TreeLane). l.tasks)) c.deref.ensures.value))
    (own_lines _ _ _ c.args.maker.now _ _ _ _ made.made made.tasks ran.tasks ran.ties c.requires.rising)

-- the passes are still of the tree
pub take_all_back-requires-clause-trees : goal.take_all_back-requires-clause-trees
take_all_back-requires-clause-trees g c = let ran = c.in_ok-lanes.ensures in
    let made = c.in_ok-fresh.ensures in
    its_tree _ _ _ c.args.maker.now _ _ _ _ made.made made.tasks ran.tasks ran.ties

-- what follows from three facts if a call succeeds
from_three : {A E : Type 0} {P Q R S : A → Type 0} (r : Result A E) → IfOk r P → IfOk r Q
    → IfOk r R → ((x : A) → P x → Q x → R x → S x) → IfOk r S
from_three (Ok x) p q r f = f x p q r
from_three (Err e) p q r f = tt

-- how the lanes ended
pub returns : goal.returns
returns g c = let made = c.in_ok-fresh.ensures in let ran = c.in_ok-lanes.ensures in
    let count = c.lane_count.ensures.value in let back = c.take_all_back.ensures in
    let gathered = c.gather_all-came.ensures in record {
      came = rw (← count) (from_three c.gather_all-came.result gathered.answers gathered.left
          gathered.full (λ came answers left full.
          came_to _ _ _ _ _ _ _ _ made.made made.tasks ran.tasks ran.ties _ c.deref.ensures.value
          ran.ran c.requires.same_tree c.requires.none_taken back.same_tree back.made back.taken
          back.seen back.known _ _ _ answers left full));
    }
