-- Some answers were printed, and others are left. Serves the printing of replies.
use Rattle.std.proofs.Common.{◌≡◌, ℕ, List, ◌∷◌, ◌++◌, sym, ◌∙◌, ap, subst, append_assoc}
use Rattle.std.specs.Prelude.{Option}
use Rattle.tele_io.specs.Bytes.{Appends, AppendsPart}
use Rattle.tele_io.proofs.AppendsLemmas.{Appends-append, AppendsPart-append, AppendsPart-longer}
use Rattle.tele_lanes.specs.declared.answer_lists.Answer.{Answer}
use Rattle.tele_lines.specs.declared.items.Version.{Version}
use Rattle.tele_lines.specs.Answer.{answer_text}
use Rattle.tele_jobs.specs.Open.{answers_text}

-- what was printed, and the lines of the answers that are left, are the lines of all
pub record HasPrinted (version : Version) (before now : Option (List ℕ)) (all rest : List Answer) :
    Type 0 where
  pub printed : List ℕ
  pub writes : Appends before now printed
  pub whole : printed ++ answers_text version rest ≡ answers_text version all

-- one more answer
pub one_printed : (version : Version) (before now later : Option (List ℕ))
    (all rest others : List Answer) (answer : Answer)
    → rest ≡ answer ∷ others → HasPrinted version before now all rest
    → Appends now later (answer_text version answer.line answer.reply) → HasPrinted version before
    later all others
one_printed version before now later all rest others answer is h writes =
    let text = answer_text version answer.line answer.reply in record {
      printed = h.printed ++ text;
      writes = Appends-append before now later h.printed text h.writes writes;
      whole = append_assoc {A = ℕ} h.printed text (answers_text version others)
          ∙ ap (λ xs. h.printed ++ answers_text version xs) (sym is) ∙ h.whole;
    }

-- a part of one more answer
pub part_printed : (version : Version) (before now later : Option (List ℕ))
    (all rest others : List Answer) (answer : Answer)
    → rest ≡ answer ∷ others → HasPrinted version before now all rest
    → AppendsPart now later (answer_text version answer.line answer.reply)
    → AppendsPart before later (answers_text version all)
part_printed version before now later all rest others answer is h part =
    let text = answer_text version answer.line answer.reply in subst (AppendsPart before later)
    (ap (λ xs. h.printed ++ answers_text version xs) (sym is) ∙ h.whole)
    (AppendsPart-append before now later h.printed (text ++ answers_text version others) h.writes
    (AppendsPart-longer now later text (answers_text version others) part))
