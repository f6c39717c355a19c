-- What a line adds to what is written, and what is due after it. Serves the steps of a run.
use Rattle.std.proofs.Common.{◌≡◌, ℕ, List, ◌++◌, Bool, true, false, sym, ◌∙◌, ap, subst, append_assoc, arith}
use Rattle.std.specs.Prelude.{Option, IfSome}
use Rattle.tele_io.specs.Bytes.{Appends, AppendsPart}
use Rattle.tele_io.proofs.AppendsLemmas.{Appends-append, AppendsPart-append, AppendsPart-longer}
use Rattle.tele_lines.specs.Lines.{lines_of, whole_lines}
use Rattle.tele_lines.specs.Answer.{Read, text_of, exit_status}
use Rattle.tele_lines.specs.Progress.{read_at, GoesTo}
use Rattle.tele_lines.proofs.PlaceLemmas.{still_going}
use Rattle.tele_jobs.specs.Due.{Moment, Takes, due, whole_due, whole_text, RunsTo, Ends}
use Rattle.tele_jobs.proofs.AnswerLemmas.{text-good}

-- lines were read and taken into the round
pub went_on : (was now : Moment) (lines given : List Read) (bytes : List ℕ) (ended : Bool)
    (before written unread : Option (List ℕ))
    → was.lines ≡ lines → GoesTo was.place now.place ended given bytes unread
    → Takes was.m (lines ++ given) before written now.m now.lines
    → RunsTo was bytes before written ended unread now
went_on was now lines given bytes ended before written unread is goes takes =
    let joined : (others : List Read) → was.lines ++ (given ++ others) ≡ (lines ++ given) ++
    others =
    λ others. ap (λ ls. ls ++ (given ++ others)) is ∙ sym
    (append_assoc {A = Read} lines given others) in
    let rest = read_at now.place (lines_of goes.rest) in
    let all : was.lines ++ read_at was.place (lines_of bytes) ≡ (lines ++ given) ++ rest =
    ap (λ ls. was.lines ++ ls) goes.reads ∙ joined rest in
    let whole : ended ≡ false → (more : List ℕ) → was.lines ++ read_at was.place
    (whole_lines (goes.taken ++ more))
    ≡ (lines ++ given) ++ read_at now.place (whole_lines more) =
    λ going more. ap (λ ls. was.lines ++ ls) (goes.whole going more) ∙ joined
    (read_at now.place (whole_lines more)) in
    record {
      bytes = goes.rest;
      taken = goes.taken;
      printed = takes.printed;
      leaves = goes.left;
      same = goes.same;
      writes = takes.writes;
      text = sym (ap (text_of was.m) all ∙ takes.text rest);
      status = sym (ap exit_status all ∙ takes.status rest);
      whole_text = λ going more. ap (whole_text was.m) (whole going more) ∙ takes.whole
          (read_at now.place (whole_lines more));
      whole_status = λ going more. ap exit_status (whole going more) ∙ takes.status
          (read_at now.place (whole_lines more));
    }

-- a part of the text of good lines is a part of what is due
pub part_of_due : (was : Moment) (lines given : List Read) (bytes : List ℕ) (others : List Read)
    (before written : Option (List ℕ))
    → was.lines ≡ lines → read_at was.place (lines_of bytes) ≡ given ++ others → exit_status
    (lines ++ given) ≡ 0 → AppendsPart before written (text_of was.m (lines ++ given))
    → AppendsPart before written (due was bytes).text
part_of_due was lines given bytes others before written is reads good part =
    let follows = text-good was.m (lines ++ given) others good in
    let whole = ap (λ ls. text_of was.m (was.lines ++ ls)) reads ∙ ap
    (λ ls. text_of was.m (ls ++ (given ++ others))) is
    ∙ ap (text_of was.m) (sym (append_assoc {A = Read} lines given others)) ∙ follows.same in
    subst (AppendsPart before written) (sym whole)
    (AppendsPart-longer before written (text_of was.m (lines ++ given)) follows.others part)

-- the last lines are what is due
pub due-last : (was : Moment) (lines last : List Read) (bytes : List ℕ) → was.lines ≡ lines
    → read_at was.place (lines_of bytes) ≡ last → was.lines ++ read_at was.place (lines_of bytes) ≡
    lines ++ last
due-last was lines last bytes is reads = ap (λ ls. was.lines ++ ls) reads ∙ ap (λ ls. ls ++ last) is

-- the last lines were answered
pub ended_so : (was : Moment) (lines last : List Read) (bytes : List ℕ) (ending : ℕ)
    (before written : Option (List ℕ))
    → was.lines ≡ lines → read_at was.place (lines_of bytes) ≡ last → ending ≡ exit_status
    (lines ++ last) → Appends before written (text_of was.m (lines ++ last))
    → Ends (due was bytes) before written ending
ended_so was lines last bytes ending before written is reads status writes = grind (arith, due-last)

-- a part of the text of the last lines is a part of what is due
pub ended_part : (was : Moment) (lines last : List Read) (bytes : List ℕ)
    (before written : Option (List ℕ))
    → was.lines ≡ lines → read_at was.place (lines_of bytes) ≡ last
    → AppendsPart before written (text_of was.m (lines ++ last))
    → AppendsPart before written (due was bytes).text
ended_part was lines last bytes before written is reads part = grind (arith, due-last)

-- one step after another
pub on_and_on : (first mid last : Moment) (bytes : List ℕ) (before written later : Option (List ℕ))
    (ended now_ended : Bool) (unread now : Option (List ℕ)) → (ended ≡ true → now_ended ≡ true)
    → RunsTo first bytes before written ended unread mid
    → IfSome unread (λ bytes. RunsTo mid bytes written later now_ended now last)
    → RunsTo first bytes before later now_ended now last
on_and_on first mid last bytes before written later ended now_ended unread now lasts one two =
    let next : RunsTo mid one.bytes written later now_ended now last =
    subst (λ u. IfSome u (λ bytes. RunsTo mid bytes written later now_ended now last)) one.leaves
    two in
    let was : now_ended ≡ false → ended ≡ false = still_going ended now_ended lasts in record {
      bytes = next.bytes;
      taken = one.taken ++ next.taken;
      printed = one.printed ++ next.printed;
      leaves = next.leaves;
      same = one.same ∙ ap (λ xs. one.taken ++ xs) next.same ∙ sym
          (append_assoc {A = ℕ} one.taken next.taken next.bytes);
      writes = Appends-append before written later one.printed next.printed one.writes next.writes;
      text = append_assoc {A = ℕ} one.printed next.printed (due last next.bytes).text
          ∙ ap (λ text. one.printed ++ text) next.text ∙ one.text;
      status = next.status ∙ one.status;
      whole_text = λ going more.
          ap (λ xs. (whole_due first xs).text) (append_assoc {A = ℕ} one.taken next.taken more)
          ∙ one.whole_text (was going) (next.taken ++ more)
          ∙ ap (λ text. one.printed ++ text) (next.whole_text going more)
          ∙ sym (append_assoc {A = ℕ} one.printed next.printed (whole_due last more).text);
      whole_status = λ going more.
          ap (λ xs. (whole_due first xs).status) (append_assoc {A = ℕ} one.taken next.taken more)
          ∙ one.whole_status (was going) (next.taken ++ more)
          ∙ next.whole_status going more;
    }

-- one step, and then the end of the run
pub on_and_end : (first mid : Moment) (ending : ℕ) (bytes : List ℕ)
    (before written later : Option (List ℕ)) (ended : Bool) (unread : Option (List ℕ))
    → RunsTo first bytes before written ended unread mid
    → IfSome unread (λ bytes. Ends (due mid bytes) written later ending)
    → Ends (due first bytes) before later ending
on_and_end first mid ending bytes before written later ended unread one two =
    grind (arith, Appends-append)

-- one step, and then a part of what is due
pub on_and_part : (first mid : Moment) (bytes : List ℕ) (before written later : Option (List ℕ))
    (ended : Bool) (unread : Option (List ℕ)) → RunsTo first bytes before written ended unread mid
    → IfSome unread (λ bytes. AppendsPart written later (due mid bytes).text)
    → AppendsPart before later (due first bytes).text
on_and_part first mid bytes before written later ended unread one two =
    let last : AppendsPart written later (due mid one.bytes).text =
    subst (λ u. IfSome u (λ bytes. AppendsPart written later (due mid bytes).text)) one.leaves two
    in
    subst (AppendsPart before later) one.text
    (AppendsPart-append before written later one.printed (due mid one.bytes).text one.writes last)
