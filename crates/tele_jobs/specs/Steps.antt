-- One step of a run: where it stands before and after, and how it goes on or ends.
use Rattle.std.specs.Prelude.{◌≡◌, ℕ, ◌+◌, ◌<◌, true, List, [], length, Option, None, IfSome, IsSome}
use Rattle.tele_io.specs.Bytes.{AppendsPart}
use Rattle.tele_lines.specs.declared.reader.Lines.{Lines}
use Rattle.tele_lines.specs.Rounds.{round_limit}
use Rattle.tele_lines.specs.Progress.{GoesTo, ShowsBad, Waits, place_of, count_of, stop_of, mode_of, kept_of, has_ended, unread}
use Rattle.tele_jobs.specs.declared.jobs.Job.TheVariants.{Read}
use Rattle.tele_jobs.specs.declared.outcomes.TheConstants.{ANSWERED, BAD_LINE, READ_FAILED}
use Rattle.tele_jobs.specs.Causes.{IsAnswer, IsCutShort, IsStatus}
use Rattle.tele_jobs.specs.Open.{Open, IsOpenBefore, RunsOn}
use Rattle.tele_jobs.specs.Due.{Moment, moment_of, due, rounds_due, RunsTo, RunsRounds, Ends}

-- where a run stands: its reader, its open round, the bytes left in its source, what was written to
-- its sink, and the tables on its shelf
pub record Standing : Type 0 where
  pub lines : Lines
  pub round : Open
  pub left : Option (List ℕ)
  pub written : Option (List ℕ)
  pub kept : Option (List (List ℕ))

-- where a run with these stands
abbrev pub run_standing : Lines → Open → Option (List ℕ) → Option (List ℕ)
    → Option (List (List ℕ)) → Standing
run_standing lines open_round left written kept =
    record { lines = lines; round = open_round; left = left; written = written; kept = kept }

-- the moment of a run that stands there
abbrev pub moment_at : Standing → Moment
moment_at at = moment_of at.lines at.round

-- the bytes that it hasn't read into lines
abbrev pub unread_at : Standing → Option (List ℕ)
unread_at at = unread at.lines at.left

-- the text and the rounds that were due are those since, and then those still due
abbrev pub Prints : Standing → Standing → Type 0
Prints was now = IfSome (unread_at was) (λ bytes.
    RunsTo (moment_at was) bytes was.written now.written (has_ended now.lines) (unread_at now)
    (moment_at now))

-- a step after which the run goes on: a line was taken; if it ended the round, the replies were
-- printed and nothing is held back
pub record StepsOn (was now : Standing) (held : List ℕ) : Type 0 where
  pub text : Prints was now
  pub rounds : IfSome (unread_at was) (λ bytes. RunsRounds was.round was.kept now.round now.kept
      (moment_at was) bytes (unread_at now) (moment_at now))
  pub passed_on : now.round.tasks ≡ [] → held ≡ []
  pub going : stop_of now.lines ≡ None
  pub count : count_of was.lines < count_of now.lines
  pub few : length now.round.tasks < round_limit
  pub chosen : IsSome (mode_of now.lines)
  pub before : IsOpenBefore (count_of now.lines + 1) now.round

-- a step that ends the run with a status: all that was due was printed, or a prefix of it; a failed
-- read leaves an unended line and an open round, and a bad line stays unread
pub record EndsRun (was now : Standing) (held : List ℕ) (status : ℕ) : Type 0 where
  pub text : IsAnswer status → IfSome (unread_at was) (λ bytes.
      Ends (due (moment_at was) bytes) was.written now.written status)
  pub part : IsCutShort status → IfSome (unread_at was) (λ bytes.
      AppendsPart was.written now.written (due (moment_at was) bytes).text)
  pub rounds : IsAnswer status → IfSome (unread_at was) (λ bytes.
      RunsOn was.round was.kept now.round now.kept (rounds_due (moment_at was) bytes))
  pub passed_on : ¬ (IsCutShort status) → held ≡ []
  pub is_status : IsStatus Read status
  pub passed : status ≡ READ_FAILED → Prints was now
  pub waits : status ≡ READ_FAILED → Waits now.lines
  pub kept : status ≡ READ_FAILED → now.round ≡ was.round
  pub skipped : status ≡ BAD_LINE → IfSome (unread_at was) (λ bytes. GoesTo (place_of was.lines)
      (place_of now.lines) (has_ended now.lines) [] bytes (unread_at now))
  pub shown : status ≡ BAD_LINE → ShowsBad (place_of now.lines) (kept_of now.lines)
      (has_ended now.lines)
  pub whole : status ≡ ANSWERED → has_ended now.lines ≡ true
