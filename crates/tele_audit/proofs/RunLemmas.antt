-- What a command has written of what is due. Serves `packing` and `runs`.
use Rattle.std.proofs.Common.{◌≡◌, ℕ, List, Option, Some, None, refl, sym, subst, IfSome, inl, Result, Ok, Err, IfOk, OnOk, OnErr, arith}
use Rattle.ist_core.specs.TreeTerms.{Map}
use Rattle.tele_io.specs.Bytes.{Appends, AppendsPart}
use Rattle.tele_lines.specs.declared.items.Cause.{Cause}
use Rattle.tele_lines.specs.Answer.{bad_text, usage_text}
use Rattle.tele_audit.specs.declared.flaws.Flaw.{Flaw}
use Rattle.tele_audit.specs.declared.jobs.Job.{Job}
use Rattle.tele_audit.specs.declared.jobs.Job.TheVariants.{Refuse, Pack, Tell}
use Rattle.tele_audit.specs.declared.jobs.Question.{Question}
use Rattle.tele_audit.specs.declared.outcomes.Halt.{Halt}
use Rattle.tele_audit.specs.declared.outcomes.TheConstants.{DONE, USAGE, BAD_LINE, FLAWED}
use Rattle.tele_audit.specs.Dumps.{DumpContent, IsLawfulDump, dump_of}
use Rattle.tele_audit.specs.Flaws.{IsFirstFlaw}
use Rattle.tele_audit.specs.Packing.{Holds, Refuses, left_by, IsNewTable}
use Rattle.tele_audit.specs.Runs.{IsOwed, Writes, WritesPart, said, flaw_text}

-- a text that is due was written, or a part of it
module _ (job : Job) (before now : Option (List ℕ)) (text : List ℕ) (status : ℕ) where
  -- a due text that was appended was written whole
  pub writes_if : (left : Option (List ℕ)) → IfSome left (λ bytes. IsOwed job bytes text status)
      → Appends before now text → IfSome left (λ bytes. Writes job bytes before now status)
  writes_if None due writes = tt
  writes_if (Some bytes) due writes = record { text = text; due = due; writes = writes }

  -- a prefix of a due text was written in part
  pub part_if : (left : Option (List ℕ)) → IfSome left (λ bytes. IsOwed job bytes text status)
      → AppendsPart before now text → IfSome left (λ bytes. WritesPart job bytes before now)
  part_if None due part = tt
  part_if (Some bytes) due part = grind arith

  -- on success the status is the due one
  pub done_text : (left : Option (List ℕ)) → IfSome left (λ bytes. IsOwed job bytes text status)
      → (r : Result ℕ Halt) → IfOk r (λ s. s ≡ status) → OnOk r (Appends before now text)
      → IfOk r (λ s. IfSome left (λ bytes. Writes job bytes before now s))
  done_text left due (Err halt) same writes = tt
  done_text left due (Ok s) same writes = grind (arith, writes_if)

-- ---- what is due

-- the dump of a new table of the map that the lines leave is due
pub packed_due : (left : Option (List ℕ)) (m : Map) (words : List ℕ)
    → IfSome left (λ bytes. left_by bytes ≡ Holds m) → IsNewTable m words
    → IfSome left (λ bytes. IsOwed Pack bytes (dump_of words) DONE)
packed_due None m words is table = tt
packed_due (Some bytes) m words is table =
    inl (record {
      m = m;
      left = is;
      words = words;
      table = table;
      text_is = refl;
      status_is = refl;
    })

-- for a bad line, the line that names it is due
pub bad_due : (left : Option (List ℕ)) (number : ℕ) (cause : Cause)
    → IfSome left (λ bytes. left_by bytes ≡ Refuses number cause)
    → IfSome left (λ bytes. IsOwed Pack bytes (bad_text number cause) BAD_LINE)
bad_due None number cause is = tt
bad_due (Some bytes) number cause is = grind arith

-- the same line
module _ (before now : Option (List ℕ)) (n m : ℕ) (c d : Cause) (line : n ≡ m) (cause : c ≡ d) where
  -- the line that names a bad line is the same for equal numbers and causes
  pub same_bad : Appends before now (bad_text n c) → Appends before now (bad_text m d)
  same_bad writes = grind arith

  -- a part of that line is the same for equal numbers and causes
  pub same_bad_part : AppendsPart before now (bad_text n c) → AppendsPart before now (bad_text m d)
  same_bad_part part = grind arith

-- for a lawful dump, the text for the question is due
pub answer_due : (left : Option (List ℕ)) (question : Question) (told : DumpContent)
    → IfSome left (λ bytes. IsLawfulDump bytes told)
    → IfSome left (λ bytes. IsOwed (Tell question) bytes (said question told) DONE)
answer_due None question told lawful = tt
answer_due (Some bytes) question told lawful = grind arith

-- the same flaw
module _ (before now : Option (List ℕ)) (f h : Flaw) (same : f ≡ h) where
  -- the line that names a flaw is the same for equal flaws
  pub same_flaw : Appends before now (flaw_text f) → Appends before now (flaw_text h)
  same_flaw writes = subst (λ x. Appends before now (flaw_text x)) same writes

  -- a part of that line is the same for equal flaws
  pub same_flaw_part : AppendsPart before now (flaw_text f) → AppendsPart before now (flaw_text h)
  same_flaw_part part = subst (λ x. AppendsPart before now (flaw_text x)) same part

-- for a flawed dump, the line that names its first flaw is due
pub flaw_due : (left : Option (List ℕ)) (question : Question) (flaw : Flaw)
    → IfSome left (λ bytes. IsFirstFlaw bytes flaw)
    → IfSome left (λ bytes. IsOwed (Tell question) bytes (flaw_text flaw) FLAWED)
flaw_due None question flaw first = tt
flaw_due (Some bytes) question flaw first = grind arith

-- for wrong arguments, the usage line is due
pub usage_due : (left : Option (List ℕ))
    → IfSome left (λ bytes. IsOwed Refuse bytes usage_text USAGE)
usage_due None = tt
usage_due (Some bytes) = (refl, refl)

-- ---- wrong arguments

-- a part of the line that says so was written
pub refused_part : (before now left : Option (List ℕ)) (job : Job) → job ≡ Refuse
    → (r : Result ℕ Halt) → OnErr r (AppendsPart before now usage_text)
    → OnErr r (IfSome left (λ bytes. WritesPart job bytes before now))
refused_part before now left job is (Ok status) part = tt
refused_part before now left job is (Err halt) part =
    subst (λ j. IfSome left (λ bytes. WritesPart j bytes before now)) (sym is)
    (part_if Refuse before now usage_text USAGE left (usage_due left) part)
