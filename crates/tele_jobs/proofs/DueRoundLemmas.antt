-- Which rounds were run and which are still due, between two lines. Serves the steps of a run and
-- the loop over them.
use Rattle.std.proofs.Common.{◌≡◌, ℕ, List, [], ◌++◌, Bool, false, sym, ◌∙◌, ap, subst, append_assoc, arith}
use Rattle.std.specs.Prelude.{Option, Some, None, IfSome}
use Rattle.tele_lines.specs.Lines.{lines_of}
use Rattle.tele_lines.specs.Answer.{Read}
use Rattle.tele_lines.specs.Buffers.{unread_of}
use Rattle.tele_lines.specs.Progress.{read_at, GoesTo}
use Rattle.tele_lanes.specs.declared.task_lists.Task.{Task}
use Rattle.tele_jobs.specs.Rounds.{Team, task_rounds, input_rounds, RanRounds}
use Rattle.tele_jobs.specs.Open.{Open, FollowsRounds, RunsOn, fresh_round}
use Rattle.tele_jobs.specs.Due.{Moment, rounds_due, TakesRounds, RunsRounds}
use Rattle.tele_jobs.proofs.RanLemmas.{none_ran}
use Rattle.tele_jobs.proofs.DueLemmas.{due-last}
use Rattle.tele_jobs.proofs.ToldLemmas.{first_moment}

module _ (old new : Open) (kept later : Option (List (List ℕ))) where
  -- lines were read and taken into the round
  rounds_went : (was now : Moment) (lines given : List Read) (bytes : List ℕ) (ended : Bool)
      (unread : Option (List ℕ)) → was.lines ≡ lines
      → GoesTo was.place now.place ended given bytes unread
      → TakesRounds old kept new later (lines ++ given) now.lines
      → RunsRounds old kept new later was bytes unread now
  rounds_went was now lines given bytes ended unread is goes takes =
      let rest = read_at now.place (lines_of goes.rest) in
      let all : was.lines ++ read_at was.place (lines_of bytes) ≡ (lines ++ given) ++ rest =
      ap (λ ls. was.lines ++ ls) goes.reads ∙ ap (λ ls. ls ++ (given ++ rest)) is
      ∙ sym (append_assoc {A = Read} lines given rest) in
      record {
        more = takes.more;
        ran = takes.ran;
        rest = goes.rest;
        leaves = goes.left;
        due = ap task_rounds all ∙ takes.cut rest;
      }

  -- the rounds between two moments, if the source reports its bytes
  pub rounds_went_if : (was now : Moment) (lines given : List Read)
      (unread left : Option (List ℕ)) (ended : Bool) → was.lines ≡ lines
      → IfSome unread (λ bytes. GoesTo was.place now.place ended given bytes left)
      → TakesRounds old kept new later (lines ++ given) now.lines
      → IfSome unread (λ bytes. RunsRounds old kept new later was bytes left now)
  rounds_went_if was now lines given None left ended is goes takes = tt
  rounds_went_if was now lines given (Some bytes) left ended is goes takes =
      rounds_went was now lines given bytes ended left is goes takes

  -- the last lines were taken, and their rounds run
  pub rounds_ended_if : (was : Moment) (lines last : List Read) (more : List (List Task))
      (unread : Option (List ℕ)) → was.lines ≡ lines
      → IfSome unread (λ bytes. read_at was.place (lines_of bytes) ≡ last)
      → task_rounds (lines ++ last) ≡ more → RunsOn old kept new later more
      → IfSome unread (λ bytes. RunsOn old kept new later (rounds_due was bytes))
  rounds_ended_if was lines last more None is reads cut ran = tt
  rounds_ended_if was lines last more (Some bytes) is reads cut ran =
      subst (λ rs. RunsOn old kept new later rs)
      (sym (ap task_rounds (due-last was lines last bytes is reads) ∙ cut)) ran

-- the rounds that were run, with the rounds due for the unread bytes, are the rounds of all bytes
pub record HasRounds (team : Team) (most : ℕ) (before kept : Option (List (List ℕ))) (o : Open)
    (bytes : List ℕ) (unread : Option (List ℕ)) (now : Moment) : Type 0 where
  pub ran : List (List Task)
  pub has : FollowsRounds team most ran before kept o
  pub rest : List ℕ
  pub leaves : unread ≡ Some rest
  pub due : input_rounds bytes ≡ ran ++ rounds_due now rest

module _ (team : Team) (most : ℕ) (before : Option (List (List ℕ))) where
  all_rounds_due : (left : Option (List ℕ)) → IfSome left (λ bytes. HasRounds team most before
      before (fresh_round team most) bytes (unread_of [] false left) first_moment)
  all_rounds_due None = tt
  all_rounds_due (Some bytes) = grind (arith, none_ran)

  -- before the first line all are due
  pub rounds_first : (left : Option (List ℕ)) (unended : List ℕ) (ended : Bool) (now : Moment)
      (o : Open) → unended ≡ [] → ended ≡ false → now ≡ first_moment → o ≡ fresh_round team most
      → IfSome left (λ bytes. HasRounds team most before before o bytes
      (unread_of unended ended left) now)
  rounds_first left unended ended now o no_bytes going first fresh =
      grind (arith, first_moment, all_rounds_due)

  module _ (mid : Open) (kept : Option (List (List ℕ))) where
    -- one step after another
    rounds_on : (bytes : List ℕ) (new : Open) (later : Option (List (List ℕ))) (was now : Moment)
        (unread left : Option (List ℕ)) → HasRounds team most before kept mid bytes unread was
        → IfSome unread (λ rest. RunsRounds mid kept new later was rest left now)
        → HasRounds team most before later new bytes left now
    rounds_on bytes new later was now unread left h step =
        let next : RunsRounds mid kept new later was h.rest left now =
        subst (λ u. IfSome u (λ rest. RunsRounds mid kept new later was rest left now))
        h.leaves step in
        record {
          ran = h.ran ++ next.more;
          has = next.ran team most h.ran before h.has;
          rest = next.rest;
          leaves = next.leaves;
          due = h.due ∙ ap (λ rs. h.ran ++ rs) next.due ∙ sym
              (append_assoc {A = List Task} h.ran next.more (rounds_due now next.rest));
        }

    -- the rounds so far, after one more step, if the source reports its bytes
    pub rounds_on_if : (all : Option (List ℕ)) (new : Open) (later : Option (List (List ℕ)))
        (was now : Moment) (unread left : Option (List ℕ))
        → IfSome all (λ bytes. HasRounds team most before kept mid bytes unread was)
        → IfSome unread (λ rest. RunsRounds mid kept new later was rest left now)
        → IfSome all (λ bytes. HasRounds team most before later new bytes left now)
    rounds_on_if None new later was now unread left h step = tt
    rounds_on_if (Some bytes) new later was now unread left h step = grind (arith, rounds_on)

    -- the rounds at the end of a run
    rounds_end : (bytes : List ℕ) (new : Open) (later : Option (List (List ℕ))) (was : Moment)
        (unread : Option (List ℕ)) (last : Option (List ℕ)) (fulls : ℕ) → last ≡ new.last
        → fulls ≡ new.fulls → HasRounds team most before kept mid bytes unread was
        → IfSome unread (λ rest. RunsOn mid kept new later (rounds_due was rest))
        → RanRounds team most (input_rounds bytes) before later last fulls
    rounds_end bytes new later was unread last fulls last_is fulls_is h step = grind arith

    -- the rounds at the end of a run, if the source reports its bytes
    pub rounds_end_if : (all : Option (List ℕ)) (new : Open) (later : Option (List (List ℕ)))
        (was : Moment) (unread : Option (List ℕ)) (last : Option (List ℕ)) (fulls : ℕ)
        → last ≡ new.last → fulls ≡ new.fulls
        → IfSome all (λ bytes. HasRounds team most before kept mid bytes unread was)
        → IfSome unread (λ rest. RunsOn mid kept new later (rounds_due was rest))
        → IfSome all (λ bytes. RanRounds team most
        (input_rounds bytes) before later last fulls)
    rounds_end_if None new later was unread last fulls last_is fulls_is h step = tt
    rounds_end_if (Some bytes) new later was unread last fulls last_is fulls_is h step =
        rounds_end bytes new later was unread last fulls last_is fulls_is h step
