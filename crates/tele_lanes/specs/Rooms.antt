-- A list of answers with its room.
use Rattle.std.specs.Prelude.{ℕ, List}
use Rattle.tele_lanes.specs.declared.answer_lists.Answer.{Answer}

-- the answers in order, and how many fit without allocating
pub record AnswerList : Type 0 where
  pub list : List Answer
  pub room : ℕ
