-- The program: what a command owes for the bytes of its source, and its exit status.
use Rattle.std.specs.Prelude.{◌≡◌, ℕ, ◌⊎◌, List, ◌++◌, length, codes, decimal, Option}
use Rattle.std.specs.List.{flat_map}
use Rattle.ist_core.specs.Map.{Map, pairs_between}
use Rattle.tele_io.specs.Bytes.{Appends, AppendsPart}
use Rattle.tele_lines.specs.declared.items.Cause.{Cause}
use Rattle.tele_lines.specs.declared.items.Version.TheVariants.{One}
use Rattle.tele_lines.specs.Answer.{pair_text, bad_text, usage_text}
use Rattle.tele_audit.specs.declared.flaws.Flaw.{Flaw}
use Rattle.tele_audit.specs.declared.flaws.Flaw.TheVariants.{Magic, Short, Size, Used, Long, Anchor, Row}
use Rattle.tele_audit.specs.declared.jobs.Job.{Job}
use Rattle.tele_audit.specs.declared.jobs.Job.TheVariants.{Refuse, Pack, Tell}
use Rattle.tele_audit.specs.declared.jobs.Question.{Question}
use Rattle.tele_audit.specs.declared.jobs.Question.TheVariants.{Counts, Between}
use Rattle.tele_audit.specs.declared.outcomes.TheConstants.{DONE, USAGE, BAD_LINE, READ_FAILED, WRITE_FAILED, NO_MEMORY, FLAWED}
use Rattle.tele_audit.specs.Dumps.{DumpContent, IsLawfulDump, dump_of}
use Rattle.tele_audit.specs.Flaws.{IsFirstFlaw}
use Rattle.tele_audit.specs.Packing.{Holds, Refuses, left_by, IsNewTable}

-- ---- texts

-- the line with the numbers of keys, used words and words
abbrev pub counts_text : DumpContent → List ℕ
counts_text told =
    codes "keys " ++ decimal (length told.pairs) ++ codes " used " ++ decimal told.used
    ++ codes " words " ++ decimal told.words ++ codes "\n"

-- the text for a question about a dump
abbrev pub said : Question → DumpContent → List ℕ
said Counts told = counts_text told
said (Between first last) told = flat_map (pair_text One) (pairs_between first last told.pairs)

-- the word for a flaw; for a row also its place
abbrev pub flaw_word : Flaw → List ℕ
flaw_word Magic = codes "magic"
flaw_word Short = codes "short"
flaw_word Size = codes "size"
flaw_word Used = codes "used"
flaw_word Long = codes "long"
flaw_word Anchor = codes "anchor"
flaw_word (Row place) = codes "row " ++ decimal place

-- the line that names a flaw
abbrev pub flaw_text : Flaw → List ℕ
flaw_text flaw = codes "! dump " ++ flaw_word flaw ++ codes "\n"

-- ---- what is due

-- if no line is bad, the text is the dump of a new table of the map that the lines leave
pub record IsPacked (bytes text : List ℕ) (status : ℕ) : Type 0 where
  pub m : Map
  pub left : left_by bytes ≡ Holds m
  pub words : List ℕ
  pub table : IsNewTable m words
  pub text_is : text ≡ dump_of words
  pub status_is : status ≡ DONE

-- the first bad line is named
pub record IsBadLine (bytes text : List ℕ) (status : ℕ) : Type 0 where
  pub number : ℕ
  pub cause : Cause
  pub left : left_by bytes ≡ Refuses number cause
  pub text_is : text ≡ bad_text number cause
  pub status_is : status ≡ BAD_LINE

-- the bytes are the dump of lawful words, and the text answers the question from its report
pub record IsAnswered (question : Question) (bytes text : List ℕ) (status : ℕ) : Type 0 where
  pub told : DumpContent
  pub lawful : IsLawfulDump bytes told
  pub text_is : text ≡ said question told
  pub status_is : status ≡ DONE

-- the first flaw of the bytes is named
pub record IsFlawed (bytes text : List ℕ) (status : ℕ) : Type 0 where
  pub flaw : Flaw
  pub first : IsFirstFlaw bytes flaw
  pub text_is : text ≡ flaw_text flaw
  pub status_is : status ≡ FLAWED

-- what a command owes for these bytes: the text and the status
abbrev pub IsOwed : Job → List ℕ → List ℕ → ℕ → Type 0
IsOwed Refuse bytes text status = (text ≡ usage_text) × (status ≡ USAGE)
IsOwed Pack bytes text status = IsPacked bytes text status ⊎ IsBadLine bytes text status
IsOwed (Tell question) bytes text status =
    IsAnswered question bytes text status ⊎ IsFlawed bytes text status

-- a due text was written whole, and the status is the one due with it
pub record Writes (job : Job) (bytes : List ℕ) (before now : Option (List ℕ)) (status : ℕ)
    : Type 0 where
  pub text : List ℕ
  pub due : IsOwed job bytes text status
  pub writes : Appends before now text

-- a prefix of a due text was written
pub record WritesSome (job : Job) (bytes : List ℕ) (before now : Option (List ℕ)) : Type 0 where
  pub text : List ℕ
  pub status : ℕ
  pub due : IsOwed job bytes text status
  pub writes : AppendsPart before now text

-- nothing was written, or a prefix of a due text
abbrev pub WritesPart : Job → List ℕ → Option (List ℕ) → Option (List ℕ) → Type 0
WritesPart job bytes before now = (now ≡ before) ⊎ WritesSome job bytes before now

-- ---- statuses

-- the text was written whole
abbrev pub IsWrittenWhole : Job → ℕ → Type 0
IsWrittenWhole Refuse status = status ≡ USAGE
IsWrittenWhole Pack status = (status ≡ DONE) ⊎ (status ≡ BAD_LINE)
IsWrittenWhole (Tell question) status = (status ≡ DONE) ⊎ (status ≡ FLAWED)

-- the sink failed, or memory ran out
abbrev pub EndsEarly : ℕ → Type 0
EndsEarly status = (status ≡ WRITE_FAILED) ⊎ (status ≡ NO_MEMORY)

-- the statuses that a run may return, by its job
abbrev pub IsRunStatus : Job → ℕ → Type 0
IsRunStatus Refuse status = IsWrittenWhole Refuse status ⊎ EndsEarly status
IsRunStatus job status = IsWrittenWhole job status ⊎ ((status ≡ READ_FAILED) ⊎ EndsEarly status)
