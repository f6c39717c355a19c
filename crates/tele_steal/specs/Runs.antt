-- A lane before it is run, and after.
use Rattle.std.specs.Prelude.{◌≡◌, ℕ, ◌≤◌, [], List, length, Option, None, Some, IfSome, IfNone, slice_get, option_map}
use Rattle.ist_core.specs.Replies.{Answered, Refused}
use Rattle.tele_lanes.specs.Lines.{commands_of, AnswerInOrder, CallInOrder, TellReplies}
use Rattle.tele_lanes.specs.declared.lanes.Lane.{Lane}
use Rattle.tele_lanes.specs.declared.task_lists.Task.{Task}

-- what stays of a lane that is run: its number, its tasks, and what its port is tied to
pub record Ticket (T : Type 0) : Type 0 where
  pub number : ℕ
  pub tasks : List Task
  pub tie : T

-- the ticket of a lane
abbrev pub ticket : {P T : Type 0} → (P → T) → Lane P T → Ticket T
ticket tie l = record { number = l.number; tasks = l.tasks; tie = tie l.port }

-- the lane wasn't run: no answers, room for one per task, and a port without calls
pub record IsNewLane {P T : Type 0} (calls_of : P → List Answered) (refusal_of : P → Option Refused)
    (l : Lane P T) : Type 0 where
  pub empty : l.answers.list ≡ []
  pub room : length l.tasks ≤ l.answers.room
  pub no_calls : calls_of l.port ≡ []
  pub unrefused : refusal_of l.port ≡ None

-- the lane was run: its port made the calls of its first tasks and has an answer to each, and it
-- stopped if its port refused the next
pub record IsRunLane {P T : Type 0} (calls_of : P → List Answered) (refusal_of : P → Option Refused)
    (l : Lane P T) : Type 0 where
  pub calls : CallInOrder l.tasks (calls_of l.port)
  pub answers : AnswerInOrder l.tasks l.answers.list
  pub replies : TellReplies (calls_of l.port) l.answers.list
  pub stopped : l.stopped ≡ option_map (λ r. r.full) (refusal_of l.port)
  pub refused : IfSome (refusal_of l.port) (λ r.
      slice_get (commands_of l.tasks) (length (calls_of l.port)) ≡ Some r.command)
  pub whole : IfNone l.stopped (length (calls_of l.port) ≡ length l.tasks)
