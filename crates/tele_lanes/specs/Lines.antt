-- The lines of tasks and answers, and what it means to answer tasks in order.
use Rattle.std.specs.Prelude.{◌≡◌, ℕ, List, Option, map, take, length}
use Rattle.std.specs.List.{Contains}
use Rattle.ist_core.specs.declared.commands.Command.{Command}
use Rattle.ist_core.specs.Replies.{Answered}
use Rattle.tele_lanes.specs.declared.task_lists.Task.{Task}
use Rattle.tele_lanes.specs.declared.answer_lists.Answer.{Answer}

-- the commands of the tasks, in order
abbrev pub commands_of : List Task → List Command
commands_of tasks = map (λ t. t.command) tasks

-- the lines of the tasks, in order
abbrev pub task_lines : List Task → List ℕ
task_lines tasks = map (λ t. t.line) tasks

-- the lines that the answers are for, in order
abbrev pub answer_lines : List Answer → List ℕ
answer_lines answers = map (λ a. a.line) answers

-- the replies in the answers, in order
abbrev pub replies_in : List Answer → List (Option ℕ)
replies_in answers = map (λ a. a.reply) answers

-- answer j is for the line of task j, and there are at most as many answers as tasks
abbrev pub AnswerInOrder : List Task → List Answer → Type 0
AnswerInOrder tasks answers = answer_lines answers ≡ take (length answers) (task_lines tasks)

-- the calls were made with the commands of the first tasks, in order
abbrev pub CallInOrder : List Task → List Answered → Type 0
CallInOrder tasks calls = map (λ c. c.command) calls ≡ take (length calls) (commands_of tasks)

-- each call has its answer: answer j has the reply of call j
abbrev pub TellReplies : List Answered → List Answer → Type 0
TellReplies calls answers = replies_in answers ≡ map (λ c. c.reply) calls

-- no line is in both lists of tasks
abbrev pub ShareNoLine : List Task → List Task → Type 0
ShareNoLine xs ys = (line : ℕ) → Contains (task_lines xs) line → ¬ (Contains (task_lines ys) line)
