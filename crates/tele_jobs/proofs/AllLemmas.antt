-- All lines, step after step until one ends the run. Serves `answer_all`.
use Rattle.std.proofs.Common.{◌≡◌, ℕ, ◌<◌, ◌≤◌, Bool, true, List, [], inl, inr, refl, sym, subst, length, arith}
use Rattle.std.specs.Prelude.{Option, Some, None, IfSome, IsSome}
use Rattle.tele_io.specs.Bytes.{Appends, HaveRisen}
use Rattle.tele_lines.specs.Answer.{answer}
use Rattle.tele_lines.specs.Buffers.{TellsEndOf}
use Rattle.tele_lines.specs.Rounds.{round_limit}
use Rattle.tele_lines.specs.Progress.{TellsEnd, TakesAsNeeded, place_of, kept_of, has_ended}
use Rattle.tele_jobs.specs.Causes.{AnswersLines, ReadsSparingly}
use Rattle.tele_jobs.specs.Due.{due, RunsTo, Ends}
use Rattle.tele_jobs.specs.Open.{Open}
use Rattle.tele_jobs.specs.Steps.{Standing, EndsRun, moment_at, unread_at}
use Rattle.tele_jobs.proofs.ToldLemmas.{first_moment, on_and_on_if, on_and_end_if, on_and_part_if, stops_if}
use Rattle.tele_jobs.proofs.ReadingLemmas.{reads_on_if, reached_if}

-- what was due at first and written whole is the answer, in its text and its status
text_if : (all before written : Option (List ℕ)) (status : ℕ)
    → IfSome all (λ bytes. Ends (due first_moment bytes) before written status)
    → IfSome all (λ bytes. Appends before written (answer bytes).text)
text_if None before written status ends = tt
text_if (Some bytes) before written status ends = ends.writes

status_if : (all before written : Option (List ℕ)) (status : ℕ)
    → IfSome all (λ bytes. Ends (due first_moment bytes) before written status)
    → IfSome all (λ bytes. status ≡ (answer bytes).status)
status_if None before written status ends = tt
status_if (Some bytes) before written status ends = ends.status

-- at the end of a source that reports its bytes none is left
whole_if : (all left : Option (List ℕ)) (ended : Bool) → (IsSome all → TellsEndOf ended left)
    → ended ≡ true → IfSome all (λ _. left ≡ Some [])
whole_if None left ended told at_end = tt
whole_if (Some bytes) left ended told at_end = (told refl).none at_end

-- a count that has risen since a later moment has risen since an earlier one
pub risen_since : (before middle now : ℕ) → before ≤ middle → HaveRisen middle now
    → HaveRisen before now
risen_since before middle now le (inl more) = inl (omega arith)
risen_since before middle now le (inr at_end) = inr at_end

-- what a run over lines has read and written, once a step has ended it
pub lines_answered : (all before : Option (List ℕ)) (was now : Standing) (held : List ℕ) (status : ℕ)
    → IfSome all (λ bytes. RunsTo first_moment bytes before was.written (has_ended was.lines)
    (unread_at was) (moment_at was))
    → IfSome all (λ bytes. ReadsSparingly bytes was.left)
    → (IsSome all → TellsEnd was.lines was.left) → length was.round.tasks < round_limit
    → EndsRun was now held status
    → IfSome was.left (λ bytes. TakesAsNeeded (place_of was.lines) (kept_of was.lines)
    (has_ended was.lines) bytes now.left)
    → (TellsEnd was.lines was.left → TellsEnd now.lines now.left)
    → (has_ended was.lines ≡ true → has_ended now.lines ≡ true)
    → AnswersLines all now.left before now.written status
lines_answered all before was now held status one a told few e needed end lasts = record {
  text = λ is. text_if _ _ _ _ (on_and_end_if _ _ _ _ _ _ _ _ one (e.text is));
  answers = λ is. status_if _ _ _ _ (on_and_end_if _ _ _ _ _ _ _ _ one (e.text is));
  whole = λ is. whole_if _ _ (has_ended now.lines) (λ some. end (told some)) (e.whole is);
  reached = λ is. reached_if _ _ _ was.round was.lines now.lines _ _ now.lines.ended one lasts
      (e.skipped is) (e.shown is) (λ some. end (told some));
  sparing = reads_on_if _ _ _ was.round was.lines _ _ one a needed;
  stops = λ is. stops_if _ _ _ now.round now.lines _
      (on_and_on_if _ _ _ _ _ _ _ _ _ _ lasts one (e.passed is)) (e.waits is)
      (subst (λ (o : Open). length o.tasks < round_limit) (sym (e.kept is)) few);
  part = λ cut. on_and_part_if _ _ _ _ _ _ _ one (e.part cut);
}
