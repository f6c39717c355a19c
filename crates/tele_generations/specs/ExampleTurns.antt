-- Two lines, and a turn of one lane on a small table that answers only the first.
use Rattle.std.specs.Prelude.{[], ◌∷◌, None}
use Rattle.ist_core.specs.declared.commands.Command.TheVariants.{Put, Get}
use Rattle.ist_core.specs.Replies.{told}
use Rattle.tele_lanes.specs.declared.task_lists.Task.{Task}
use Rattle.tele_lanes.specs.declared.answer_lists.Answer.{Answer}
use Rattle.tele_generations.specs.Runs.{LaneRun}

-- line 1 puts (1, 1)
abbrev pub line_one : Task
line_one = record { line = 1; command = Put 1 1 }

-- line 2 gets the value at 1
abbrev pub line_two : Task
line_two = record { line = 2; command = Get 1 }

-- the answer to line 1
abbrev pub answer_one : Answer
answer_one = record { line = 1; reply = None }

-- the one lane, which ended after line 1
abbrev pub one_run : LaneRun
one_run =
    record {
      tasks = line_one ∷ line_two ∷ [];
      told = told (Put 1 1) None ∷ [];
      answers = answer_one ∷ [];
    }
