-- The steps of a run if the source may not report its bytes. Serves the steps and the loop over
-- them.
use Rattle.std.proofs.Common.{◌≡◌, ℕ, ◌<◌, List, [], ◌++◌, Bool, true, false, refl, sym, ◌∙◌, ap, subst, append_assoc, append-nil, length, arith}
use Rattle.std.specs.Prelude.{Option, Some, None, IfSome, option_map, if◌then◌else◌}
use Rattle.ist_core.specs.TreeTerms.{no_pairs}
use Rattle.tele_io.specs.Bytes.{Appends, AppendsPart, Keeps}
use Rattle.tele_io.proofs.AppendsLemmas.{Appends-nothing}
use Rattle.tele_io.proofs.KeepsLemmas.{part_none}
use Rattle.tele_lines.specs.declared.reader.Lines.{Lines}
use Rattle.tele_lines.specs.Lines.{line_limit, lines_of, whole_lines}
use Rattle.tele_lines.specs.Answer.{Read, text_of, exit_status}
use Rattle.tele_lines.specs.Rounds.{round_limit}
use Rattle.tele_lines.specs.Buffers.{unread_of}
use Rattle.tele_lines.specs.Progress.{Place, place_of, version_of, read_at, GoesTo, Waits, unread}
use Rattle.tele_jobs.specs.Rounds.{Team}
use Rattle.tele_jobs.specs.Open.{Open, asked, fresh_round, map_in}
use Rattle.tele_jobs.specs.Due.{Moment, moment_of, Takes, due, whole_due, whole_text, RunsTo, Ends}
use Rattle.tele_jobs.specs.Causes.{Stops}
use Rattle.tele_jobs.proofs.RoundLemmas.{in_whole-open}
use Rattle.tele_jobs.proofs.AnswerLemmas.{status-asked}
use Rattle.tele_jobs.proofs.DueLemmas.{went_on, part_of_due, ended_so, ended_part, on_and_on, on_and_end, on_and_part}

-- no line is open, and the map has no key
abbrev pub first_at : Place → Moment
first_at place = record { m = no_pairs; lines = []; place = place }

-- before the first line
abbrev pub first_moment : Moment
first_moment = first_at (record { limit = line_limit; count = 0; mode = None })

-- a fresh reader and a fresh round are at the first moment
pub at_first : (team : Team) (words : ℕ) (lines : Lines) (round : Open)
    → place_of lines ≡ first_moment.place → round ≡ fresh_round team words
    → moment_of lines round ≡ first_moment
at_first team words lines round place empty = ap (moment_of lines) empty ∙ ap first_at place

-- lines were read and taken into the round
pub went_on_if : (was now : Moment) (lines given : List Read) (unread : Option (List ℕ))
    (ended : Bool) (before written left : Option (List ℕ)) → was.lines ≡ lines
    → IfSome unread (λ bytes. GoesTo was.place now.place ended given bytes left)
    → Takes was.m (lines ++ given) before written now.m now.lines
    → IfSome unread (λ bytes. RunsTo was bytes before written ended left now)
went_on_if was now lines given None ended before written left is goes takes = tt
went_on_if was now lines given (Some bytes) ended before written left is goes takes =
    went_on was now lines given bytes ended before written left is goes takes

-- a part of the text of good lines is a part of what is due
pub part_if : (was : Moment) (next : Place) (lines given : List Read) (unread : Option (List ℕ))
    (ended : Bool)
    (before written left : Option (List ℕ)) → was.lines ≡ lines → exit_status (lines ++ given) ≡ 0
    → IfSome unread (λ bytes. GoesTo was.place next ended given bytes left)
    → AppendsPart before written (text_of was.m (lines ++ given))
    → IfSome unread (λ bytes. AppendsPart before written (due was bytes).text)
part_if was next lines given None ended before written left is good goes part = tt
part_if was next lines given (Some bytes) ended before written left is good goes part =
    part_of_due was lines given bytes (read_at next (lines_of goes.rest)) before written is
    goes.reads good part

-- nothing was written, which is a part of what is due
pub none_if : (was : Moment) (unread before written : Option (List ℕ)) → Keeps before written
    → IfSome unread (λ bytes. AppendsPart before written (due was bytes).text)
none_if was None before written kept = tt
none_if was (Some bytes) before written kept = part_none before written (due was bytes).text kept

-- the last lines were answered
pub ended_if : (was : Moment) (lines last : List Read) (unread : Option (List ℕ)) (ending : ℕ)
    (before written : Option (List ℕ)) → was.lines ≡ lines → ending ≡ exit_status (lines ++ last)
    → IfSome unread (λ bytes. read_at was.place (lines_of bytes) ≡ last)
    → Appends before written (text_of was.m (lines ++ last))
    → IfSome unread (λ bytes. Ends (due was bytes) before written ending)
ended_if was lines last None ending before written is status reads writes = tt
ended_if was lines last (Some bytes) ending before written is status reads writes =
    ended_so was lines last bytes ending before written is reads status writes

-- a part of the text of the last lines is a part of what is due
pub ended_part_if : (was : Moment) (lines last : List Read)
    (unread before written : Option (List ℕ))
    → was.lines ≡ lines → IfSome unread (λ bytes. read_at was.place (lines_of bytes) ≡ last)
    → AppendsPart before written (text_of was.m (lines ++ last))
    → IfSome unread (λ bytes. AppendsPart before written (due was bytes).text)
ended_part_if was lines last None before written is reads part = tt
ended_part_if was lines last (Some bytes) before written is reads part = grind (arith, ended_part)

all_is_due : (left before : Option (List ℕ))
    → IfSome left (λ bytes. RunsTo first_moment bytes before before false (unread_of [] false left)
    first_moment)
all_is_due None before = tt
all_is_due (Some bytes) before = record {
  bytes = bytes;
  taken = [];
  printed = [];
  leaves = refl;
  same = refl;
  writes = Appends-nothing before;
  text = refl;
  status = refl;
  whole_text = λ _ more. refl;
  whole_status = λ _ more. refl;
}

-- before the first line all is due
pub all_due : (left before : Option (List ℕ)) (kept : List ℕ) (ended : Bool) (now : Moment)
    → kept ≡ [] → ended ≡ false → now ≡ first_moment
    → IfSome left (λ bytes. RunsTo first_moment bytes before before ended
    (unread_of kept ended left) now)
all_due left before kept ended now no_bytes going first = grind (arith, all_is_due)

-- one step after another
pub on_and_on_if : (left : Option (List ℕ)) (mid last : Moment)
    (before written later : Option (List ℕ))
    (ended now_ended : Bool) (unread now : Option (List ℕ)) → (ended ≡ true → now_ended ≡ true)
    → IfSome left (λ bytes. RunsTo first_moment bytes before written ended unread mid)
    → IfSome unread (λ bytes. RunsTo mid bytes written later now_ended now last)
    → IfSome left (λ bytes. RunsTo first_moment bytes before later now_ended now last)
on_and_on_if None mid last before written later ended now_ended unread now lasts one two = tt
on_and_on_if (Some bytes) mid last before written later ended now_ended unread now lasts one two =
    grind (arith, on_and_on)

-- one step, and then the end of the run
pub on_and_end_if : (left : Option (List ℕ)) (mid : Moment) (ending : ℕ)
    (before written later : Option (List ℕ)) (ended : Bool) (unread : Option (List ℕ))
    → IfSome left (λ bytes. RunsTo first_moment bytes before written ended unread mid)
    → IfSome unread (λ bytes. Ends (due mid bytes) written later ending)
    → IfSome left (λ bytes. Ends (due first_moment bytes) before later ending)
on_and_end_if None mid ending before written later ended unread one two = tt
on_and_end_if (Some bytes) mid ending before written later ended unread one two =
    on_and_end first_moment mid ending bytes before written later ended unread one two

-- one step, and then a part of what is due
pub on_and_part_if : (left : Option (List ℕ)) (mid : Moment)
    (before written later : Option (List ℕ)) (ended : Bool) (unread : Option (List ℕ))
    → IfSome left (λ bytes. RunsTo first_moment bytes before written ended unread mid)
    → IfSome unread (λ bytes. AppendsPart written later (due mid bytes).text)
    → IfSome left (λ bytes. AppendsPart before later (due first_moment bytes).text)
on_and_part_if None mid before written later ended unread one two = tt
on_and_part_if (Some bytes) mid before written later ended unread one two =
    on_and_part first_moment mid bytes before written later ended unread one two

-- what is unread before the end are the bytes that were kept, and those that the source has left
record Splits (kept bytes : List ℕ) (left : Option (List ℕ)) : Type 0 where
  rest : List ℕ
  leaves : left ≡ Some rest
  same : bytes ≡ kept ++ rest

splits : (kept bytes : List ℕ) (ended : Bool) (left : Option (List ℕ)) → ended ≡ false
    → option_map (λ rest. kept ++ rest) (if ended then Some [] else left) ≡ Some bytes
    → Splits kept bytes left
splits kept bytes true left going is = absurd (cc going)
splits kept bytes false (Some rest) going is = record { rest = rest; leaves = refl; same = cc is }
splits kept bytes false None going is = absurd (cc is)

-- a failed read, when the reader has kept bytes without a whole line and the round is open
stops_at : (bytes : List ℕ) (before written : Option (List ℕ)) (round : Open) (lines : Lines)
    (left : Option (List ℕ))
    → RunsTo first_moment bytes before written lines.ended (unread lines left)
    (moment_of lines round)
    → Waits lines → length round.tasks < round_limit → Stops bytes left before written
stops_at bytes before written round lines left one waits few =
    let split = splits lines.buffer one.bytes lines.ended left waits.open_end one.leaves in
    let open_lines = asked (version_of lines) round.tasks in
    let kept = whole_due first_moment (one.taken ++ lines.buffer) in
    let no_more : open_lines ++ read_at (place_of lines) (whole_lines lines.buffer) ≡ open_lines =
    ap (λ ls. open_lines ++ read_at (place_of lines) ls) waits.no_line ∙ append-nil open_lines in
    let none : whole_text (map_in round) open_lines ≡ [] = ap (text_of (map_in round))
    (in_whole-open (version_of lines) round.tasks few) in
    let text : kept.text ≡ one.printed =
    one.whole_text waits.open_end lines.buffer ∙ ap
    (λ ls. one.printed ++ whole_text (map_in round) ls) no_more
    ∙ ap (λ text. one.printed ++ text) none ∙ append-nil one.printed in
    let good : exit_status open_lines ≡ 0 =
    ap exit_status (sym (append-nil open_lines)) ∙ status-asked (version_of lines) round.tasks [] in
    record {
      taken = one.taken ++ lines.buffer;
      rest = split.rest;
      same = one.same ∙ ap (λ xs. one.taken ++ xs) split.same ∙ sym
          (append_assoc {A = ℕ} one.taken lines.buffer split.rest);
      leaves = split.leaves;
      writes = subst (Appends before written) (sym text) one.writes;
      good = one.whole_status waits.open_end lines.buffer ∙ ap exit_status no_more ∙ good;
    }

-- what a failed read leaves, if the source reports its bytes
pub stops_if : (all before written : Option (List ℕ)) (round : Open) (lines : Lines)
    (left : Option (List ℕ))
    → IfSome all (λ bytes. RunsTo first_moment bytes before written lines.ended (unread lines left)
    (moment_of lines round))
    → Waits lines → length round.tasks < round_limit → IfSome all
    (λ bytes. Stops bytes left before written)
stops_if None before written round lines left one waits few = tt
stops_if (Some bytes) before written round lines left one waits few = stops_at bytes before written
    round lines left one waits few
