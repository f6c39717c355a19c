-- The ways that a step goes, by what the reader met: what it says of the line and what was done with
-- it, joined. Serves the steps of a run.
use Rattle.std.proofs.Common.{◌≡◌, ℕ, List, [], true, refl, arith, ◌+◌, ◌<◌, ◌∷◌, ◌++◌, sym, ap, subst, append-nil, length}
use Rattle.std.specs.Prelude.{IfSome, IsSome, None}
use Rattle.tele_io.specs.Bytes.{AppendsPart, Appends, Keeps}
use Rattle.tele_lines.specs.Progress.{GoesTo, ShowsBad, Waits, place_of, kept_of, has_ended, count_of, stop_of, mode_of, version_of, read_at}
use Rattle.tele_jobs.specs.declared.outcomes.TheConstants.{ANSWERED, BAD_LINE, READ_FAILED}
use Rattle.tele_jobs.specs.Causes.{IsCutShort}
use Rattle.tele_jobs.specs.Open.{RunsOn, Open, IsOpenBefore, asked, map_in, round_for}
use Rattle.tele_jobs.specs.Due.{due, rounds_due, Ends, Takes, TakesRounds}
use Rattle.tele_jobs.specs.Steps.{Standing, Prints, EndsRun, moment_at, unread_at, StepsOn}
use Rattle.tele_jobs.proofs.CauseLemmas.{uncut, cut_unanswered, cut_above}
use Rattle.tele_lines.specs.declared.items.Cause.{Cause}
use Rattle.tele_lines.specs.declared.items.Item.{Item}
use Rattle.tele_lines.specs.declared.items.Version.{Version}
use Rattle.tele_lines.specs.Lines.{lines_of}
use Rattle.tele_lines.specs.Rounds.{round_limit}
use Rattle.tele_lines.specs.Answer.{Read, Good, Bad, text_of}
use Rattle.tele_jobs.proofs.AnswerLemmas.{status-asked}
use Rattle.tele_jobs.proofs.StepLemmas.{stay_kept, takes_same, same_lines, status-taken, at_end}
use Rattle.tele_jobs.proofs.ToldLemmas.{went_on_if, part_if, none_if, ended_if, ended_part_if}
use Rattle.tele_jobs.proofs.RoundLemmas.{task_rounds-open, task_rounds-bad}
use Rattle.tele_jobs.proofs.DueRoundLemmas.{rounds_went_if, rounds_ended_if}

-- ---- how a step ends a run, by its status. Serves the steps of a run.

module _ (was now : Standing) (held : List ℕ) where
  -- all that was due was printed, with this status
  abbrev PrintsAll : ℕ → Type 0
  PrintsAll status = IfSome (unread_at was) (λ bytes.
      Ends (due (moment_at was) bytes) was.written now.written status)

  -- all rounds that were due were run
  abbrev RunsAll : Type 0
  RunsAll = IfSome (unread_at was) (λ bytes.
      RunsOn was.round was.kept now.round now.kept (rounds_due (moment_at was) bytes))

  -- the sink failed, or memory ran out
  pub cut_ends : (status : ℕ) → IsCutShort status → IfSome (unread_at was) (λ bytes.
      AppendsPart was.written now.written (due (moment_at was) bytes).text)
      → EndsRun was now held status
  cut_ends status cut part = grind (arith, cut_unanswered, cut_above)

  -- the input has ended
  pub input_ends : PrintsAll ANSWERED → RunsAll → held ≡ [] → has_ended now.lines ≡ true
      → EndsRun was now held ANSWERED
  input_ends text rounds none ended = grind (arith, uncut)

  -- a bad line was reached
  pub bad_ends : PrintsAll BAD_LINE → RunsAll → held ≡ [] → IfSome (unread_at was) (λ bytes. GoesTo
      (place_of was.lines) (place_of now.lines) (has_ended now.lines) [] bytes (unread_at now))
      → ShowsBad (place_of now.lines) (kept_of now.lines) (has_ended now.lines)
      → EndsRun was now held BAD_LINE
  bad_ends text rounds none skipped shown = grind (arith, uncut)

  -- the source failed
  pub read_ends : Prints was now → Waits now.lines → now.round ≡ was.round → held ≡ []
      → EndsRun was now held READ_FAILED
  read_ends passed waits kept none = grind (arith, uncut)

module _ (was now : Standing) (held : List ℕ) (v : Version) (version : v ≡ version_of now.lines)
    (chosen : 0 < length was.round.tasks → IsSome (mode_of was.lines))
    (steady : IsSome (mode_of was.lines) → mode_of now.lines ≡ mode_of was.lines) where
  -- the lines of the open round, by the version that was read
  abbrev lines : List Read
  lines = asked v was.round.tasks

  -- they are the lines that were open
  same : asked (version_of was.lines) was.round.tasks ≡ lines
  same = same_lines was.lines now.lines v was.round.tasks version chosen steady

  -- the reader met these last lines
  abbrev MeetsLines : List Read → Type 0
  MeetsLines last = IfSome (unread_at was) (λ bytes.
      read_at (place_of was.lines) (lines_of bytes) ≡ last)

  -- the reader went on over these lines
  abbrev GoesOverLines : List Read → Type 0
  GoesOverLines given = IfSome (unread_at was) (λ bytes. GoesTo (place_of was.lines) (place_of now.lines)
      (has_ended now.lines) given bytes (unread_at now))

  -- the lines were answered with these after them, and their rounds run
  module _ (last : List Read) (meets : MeetsLines last) where
    -- if the sink failed or memory ran out meanwhile
    pub last_cut : (status : ℕ) → IsCutShort status
        → AppendsPart was.written now.written (text_of (map_in was.round) (lines ++ last))
        → EndsRun was now held status
    last_cut status cut part = cut_ends was now held status cut
        (ended_part_if (moment_at was) lines last _ _ _ same meets part)

  -- the input has ended, and the round was answered
  pub input_done : MeetsLines [] → length was.round.tasks < round_limit
      → Appends was.written now.written (text_of (map_in was.round) lines)
      → RunsOn was.round was.kept now.round now.kept (round_for was.round.tasks)
      → held ≡ [] → has_ended now.lines ≡ true → EndsRun was now held ANSWERED
  input_done meets few writes ran none ended = input_ends was now held
      (ended_if (moment_at was) lines [] _ 0 _ _ same (sym (status-asked v was.round.tasks []))
      meets (subst (Appends _ _) (at_end v (map_in was.round) was.round.tasks) writes))
      (rounds_ended_if was.round now.round was.kept now.kept (moment_at was) lines []
      (round_for was.round.tasks) _ same meets (task_rounds-open v was.round.tasks few) ran)
      none ended

  -- a bad line was named after the replies of the round
  pub bad_done : (number : ℕ) (cause : Cause) → MeetsLines (Bad number cause ∷ [])
      → length was.round.tasks < round_limit → Appends was.written now.written
      (text_of (map_in was.round) (lines ++ Bad number cause ∷ []))
      → RunsOn was.round was.kept now.round now.kept (round_for was.round.tasks)
      → held ≡ [] → GoesOverLines []
      → ShowsBad (place_of now.lines) (kept_of now.lines) (has_ended now.lines)
      → EndsRun was now held BAD_LINE
  bad_done number cause meets few writes ran none skipped shown =
      let last = Bad number cause ∷ [] in bad_ends was now held
      (ended_if (moment_at was) lines last _ 3 _ _ same
      (sym (status-asked v was.round.tasks last)) meets writes)
      (rounds_ended_if was.round now.round was.kept now.kept (moment_at was) lines last
      (round_for was.round.tasks) _ same meets
      (task_rounds-bad v number cause was.round.tasks few) ran)
      none skipped shown

  -- the source failed, and nothing was written
  pub read_done : now.round ≡ was.round → GoesOverLines [] → Keeps was.written now.written
      → Waits now.lines → held ≡ [] → EndsRun was now held READ_FAILED
  read_done still passed kept waits none = read_ends was now held
      (went_on_if (moment_at was) (moment_at now) lines [] _ _ _ _ _ same passed
      (takes_same _ _ _ _ _ _ _ _ (sym (append-nil lines)) as_read
      (subst (λ (o : Open). Takes (map_in was.round) lines was.written now.written (map_in o) lines)
      (sym still) (stay_kept (map_in was.round) lines _ _ kept))))
      waits still none
    where
      as_read : lines ≡ asked (version_of now.lines) now.round.tasks
      as_read = grind arith

  module _ (number : ℕ) (item : Item) where
    -- the line
    abbrev given : List Read
    given = Good number v item ∷ []

    -- a line was taken into the round
    pub line_taken : GoesOverLines given
        → Takes (map_in was.round) (lines ++ given) was.written now.written (map_in now.round)
        (asked v now.round.tasks)
        → TakesRounds was.round was.kept now.round now.kept (lines ++ given)
        (asked v now.round.tasks) → (now.round.tasks ≡ [] → held ≡ []) → stop_of now.lines ≡ None
        → count_of was.lines < number → count_of now.lines ≡ number
        → length now.round.tasks < round_limit → IsSome (mode_of now.lines)
        → IsOpenBefore (number + 1) now.round → StepsOn was now held
    line_taken goes takes ran passed going count at few some before =
        let then = ap (λ w. asked w now.round.tasks) version in record {
          text = went_on_if (moment_at was) (moment_at now) lines given _ _ _ _ _ same goes
              (takes_same _ _ _ _ _ _ _ _ refl then takes);
          rounds = rounds_went_if was.round now.round was.kept now.kept (moment_at was)
              (moment_at now) lines given _ _ _ same goes
              (subst (TakesRounds was.round _ now.round _ (lines ++ given)) then ran);
          passed_on = passed;
          going = going;
          count = subst (λ n. count_of was.lines < n) (sym at) count;
          few = few;
          chosen = some;
          before = subst (λ n. IsOpenBefore (n + 1) now.round) (sym at) before;
        }

    -- if the sink failed or memory ran out meanwhile
    pub line_cut : (status : ℕ) → IsCutShort status → GoesOverLines given
        → AppendsPart was.written now.written (text_of (map_in was.round) (lines ++ given))
        → EndsRun was now held status
    line_cut status cut goes part = cut_ends was now held status cut
        (part_if (moment_at was) _ lines given _ _ _ _ _ same
        (status-taken v was.round.tasks number item) goes part)

  -- nothing was written
  pub none_cut : (status : ℕ) → IsCutShort status → Keeps was.written now.written
      → EndsRun was now held status
  none_cut status cut kept = cut_ends was now held status cut (none_if (moment_at was) _ _ _ kept)
