-- What a run has still to write, at a moment between two lines.
use Rattle.std.specs.Prelude.{◌≡◌, ℕ, Bool, false, List, ◌++◌, Option, Some}
use Rattle.ist_core.specs.Map.{Map}
use Rattle.tele_io.specs.Bytes.{Appends}
use Rattle.tele_lines.specs.declared.reader.Lines.{Lines}
use Rattle.tele_lines.specs.Lines.{lines_of, whole_lines}
use Rattle.tele_lines.specs.Answer.{Answer, Read, text_of, exit_status}
use Rattle.tele_lines.specs.Rounds.{in_whole_rounds}
use Rattle.tele_lines.specs.Progress.{Place, read_at, place_of, version_of}
use Rattle.tele_lanes.specs.declared.task_lists.Task.{Task}
use Rattle.tele_jobs.specs.Rounds.{task_rounds}
use Rattle.tele_jobs.specs.Open.{Open, RunsOn, asked, map_in}

-- a moment of a run: the map after the rounds that were answered, the lines of the open round, and
-- how far the reading has come
pub record Moment : Type 0 where
  pub m : Map
  pub lines : List Read
  pub place : Place

-- the moment of a reader and an open round
abbrev pub moment_of : Lines → Open → Moment
moment_of lines open_round = record {
  m = map_in open_round;
  lines = asked (version_of lines) open_round.tasks;
  place = place_of lines;
}

-- the text of the lines that are in whole rounds, from the map before them
abbrev pub whole_text : Map → List Read → List ℕ
whole_text m lines = text_of m (in_whole_rounds lines)

-- the answer to the lines of the open round and to the bytes after them
abbrev pub due : Moment → List ℕ → Answer
due at bytes =
    let lines = at.lines ++ read_at at.place (lines_of bytes) in
    record { text = text_of at.m lines; status = exit_status lines }

-- the same for only those lines that a newline ends; the text is of the whole rounds only
abbrev pub whole_due : Moment → List ℕ → Answer
whole_due at bytes =
    let lines = at.lines ++ read_at at.place (whole_lines bytes) in
    record { text = whole_text at.m lines; status = exit_status lines }

-- the step of taking lines into the round, which leaves others open: what was printed, with what is
-- due then, is what was due before, and what was printed is the text of whole rounds
pub record Takes (m : Map) (lines : List Read) (before written : Option (List ℕ))
    (then_m : Map) (then_lines : List Read) : Type 0 where
  pub printed : List ℕ
  pub writes : Appends before written printed
  pub text : (more : List Read)
      → text_of m (lines ++ more) ≡ printed ++ text_of then_m (then_lines ++ more)
  pub status : (more : List Read) → exit_status (lines ++ more) ≡ exit_status (then_lines ++ more)
  pub whole : (more : List Read)
      → whole_text m (lines ++ more) ≡ printed ++ whole_text then_m (then_lines ++ more)

-- the step from one moment to a later one: what was printed since, with what is due for the bytes
-- unread now, is what was due for the bytes unread then; until the input has ended, only whole
-- rounds of lines that a newline ends are printed
pub record RunsTo (was : Moment) (then_bytes : List ℕ) (before written : Option (List ℕ))
    (ended : Bool) (unread : Option (List ℕ)) (now : Moment) : Type 0 where
  pub bytes : List ℕ
  pub taken : List ℕ
  pub printed : List ℕ
  pub leaves : unread ≡ Some bytes
  pub same : then_bytes ≡ taken ++ bytes
  pub writes : Appends before written printed
  pub text : printed ++ (due now bytes).text ≡ (due was then_bytes).text
  pub status : (due now bytes).status ≡ (due was then_bytes).status
  pub whole_text : ended ≡ false → (more : List ℕ)
      → (whole_due was (taken ++ more)).text ≡ printed ++ (whole_due now more).text
  pub whole_status : ended ≡ false → (more : List ℕ)
      → (whole_due was (taken ++ more)).status ≡ (whole_due now more).status

-- all that was due was printed
pub record Ends (whole : Answer) (before written : Option (List ℕ)) (ending : ℕ) : Type 0 where
  pub writes : Appends before written whole.text
  pub status : ending ≡ whole.status

-- the rounds of the open lines and of the bytes after them
abbrev pub rounds_due : Moment → List ℕ → List (List Task)
rounds_due at bytes = task_rounds (at.lines ++ read_at at.place (lines_of bytes))

-- the step of taking lines into the round, which leaves others open: the rounds that were run come
-- first, and then the rounds still due
pub record TakesRounds (old : Open) (kept : Option (List (List ℕ))) (new : Open)
    (later : Option (List (List ℕ))) (lines then_lines : List Read) : Type 0 where
  pub more : List (List Task)
  pub ran : RunsOn old kept new later more
  pub cut : (others : List Read)
      → task_rounds (lines ++ others) ≡ more ++ task_rounds (then_lines ++ others)

-- the step from one moment to a later one: the rounds that were due are the rounds run since, and
-- then those still due
pub record RunsRounds (old : Open) (kept : Option (List (List ℕ))) (new : Open)
    (later : Option (List (List ℕ))) (was : Moment) (bytes : List ℕ) (unread : Option (List ℕ))
    (now : Moment) : Type 0 where
  pub more : List (List Task)
  pub ran : RunsOn old kept new later more
  pub rest : List ℕ
  pub leaves : unread ≡ Some rest
  pub due : rounds_due was bytes ≡ more ++ rounds_due now rest
