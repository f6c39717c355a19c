-- The lanes on one tree: before they are run, and how they ended.
use Rattle.std.specs.Prelude.{◌≡◌, ℕ, List, map, length, All, Option, IfSome}
use Rattle.std.specs.List.{range_with_len}
use Rattle.ist_core.specs.declared.ports.Full.{Full}
use Rattle.ist_core.specs.Logs.{GoesOn}
use Rattle.ist_core.specs.Replies.{Answered}
use Rattle.ist_core.specs.Resting.{told_by_call}
use Rattle.ist_tree.specs.declared.ports.TreePort.{TreePort}
use Rattle.ist_tree.specs.declared.trees.Tree.{Tree}
use Rattle.ist_tree.specs.Faces.{TreeFace, PortFace, MakerFace, calls_in}
use Rattle.ist_tree.specs.Refusals.{PassWasRefused}
use Rattle.tele_lanes.specs.declared.lanes.Lane.{Lane}
use Rattle.tele_lanes.specs.declared.task_lists.Task.{Task}
use Rattle.tele_lanes.specs.declared.answer_lists.Answer.{Answer}
use Rattle.tele_lanes.specs.Lanes.{all_lane_tasks, unanswered, first_refusal, InLineOrder, TasksInLineOrder}
use Rattle.tele_generations.specs.Runs.{LaneRun}
use Rattle.tele_steal.specs.Runs.{IsNewLane, IsRunLane}

-- a lane whose port is a pass on a tree
abbrev pub TreeLane : Type 0
TreeLane = Lane TreePort (Tree × ℕ)

-- what the port was told by the calls of its pass
abbrev pub told_to_port : PortFace → List Answered
told_to_port port = map told_by_call port.pass.calls

-- the lane wasn't run
abbrev pub IsNew : TreeLane → Type 0
IsNew lane = IsNewLane told_to_port (λ port. port.refused) lane

-- the lane was run: it answered either all of its tasks, or the tasks before the one that its port
-- refused
abbrev pub LaneHasEnded : TreeLane → Type 0
LaneHasEnded lane = IsRunLane told_to_port (λ port. port.refused) lane

-- the lane as one that ran: its port was told what the calls of its pass say
abbrev pub run_of : TreeLane → LaneRun
run_of lane = record {
  tasks = lane.tasks;
  told = told_to_port lane.port;
  answers = lane.answers.list;
}

-- these lanes were made on the tree: they have the numbers from 0 on, and so have their passes; none
-- was run, and the maker has made as many passes as there are lanes
pub record AreMade (tree : TreeFace) (before maker : MakerFace) (lanes : List TreeLane) : Type 0 where
  pub lane_numbers : map (λ lane. lane.number) lanes ≡ range_with_len 0 (length lanes)
  pub fresh : All IsNew lanes
  pub trees : All (λ lane. lane.port.pass.tree ≡ tree) lanes
  pub numbers : map (λ lane. lane.port.pass.number) lanes ≡ range_with_len 0 (length lanes)
  pub same_tree : maker.tree ≡ before.tree
  pub made : maker.made ≡ length lanes
  pub taken : maker.taken ≡ before.taken

-- how the tasks ran in lanes on the tree: each lane had the pass of its number, which this maker
-- took back; these are the answers and the tasks left in line order, and the lowest refusal
pub record CameTo (tree : TreeFace) (maker : MakerFace) (workers : ℕ) (tasks : List Task)
    (answers : List Answer) (left : List Task) (full : Option Full) : Type 0 where
  pub ends : List TreeLane
  pub lanes : map (λ e. e.tasks) ends ≡ all_lane_tasks workers tasks
  pub ran : All LaneHasEnded ends
  pub trees : All (λ e. e.port.pass.tree ≡ tree) ends
  pub numbers : map (λ e. e.port.pass.number) ends ≡ range_with_len 0 workers
  pub same_tree : maker.tree ≡ tree
  pub made : maker.made ≡ workers
  pub taken : maker.taken ≡ map (λ e. calls_in e.port.pass) ends
  pub seen : All (λ e. GoesOn e.port.pass.seen maker.seen) ends
  pub causes : All (λ e. IfSome e.port.refused (PassWasRefused e.port.pass)) ends
  pub answered : InLineOrder (map (λ e. e.answers.list) ends) answers
  pub left_are : TasksInLineOrder (map (λ e. unanswered e.tasks e.answers.list) ends) left
  pub full_is : full ≡ first_refusal (map (λ e. e.stopped) ends)
