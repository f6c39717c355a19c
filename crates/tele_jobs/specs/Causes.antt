-- Which statuses a run ends with, and what was written then.
use Rattle.std.specs.Prelude.{◌≡◌, ℕ, ◌≤◌, ◌⊎◌, List, [], ◌∷◌, ◌++◌, length, Option, Some, IfSome}
use Rattle.tele_io.specs.Bytes.{Appends, AppendsPart}
use Rattle.tele_lines.specs.Lines.{newline, whole_lines}
use Rattle.tele_lines.specs.Buffers.{piece_limit}
use Rattle.tele_lines.specs.Answer.{answer, input_lines, exit_status}
use Rattle.tele_lines.specs.Rounds.{whole_rounds_text}
use Rattle.tele_jobs.specs.declared.jobs.Job.{Job}
use Rattle.tele_jobs.specs.declared.jobs.Job.TheVariants.{Refuse, Make, Read}
use Rattle.tele_jobs.specs.declared.outcomes.TheConstants.{ANSWERED, USAGE, BAD_LINE, READ_FAILED, WRITE_FAILED, NO_MEMORY}

-- the input was answered up to its end or its first bad line
abbrev pub IsAnswer : ℕ → Type 0
IsAnswer status = (status ≡ ANSWERED) ⊎ (status ≡ BAD_LINE)

-- the text was not written whole, because the sink failed or memory ran out
abbrev pub IsCutShort : ℕ → Type 0
IsCutShort status = (status ≡ WRITE_FAILED) ⊎ (status ≡ NO_MEMORY)

-- the statuses of a run, by its job
abbrev pub IsStatus : Job → ℕ → Type 0
IsStatus Refuse status = (status ≡ USAGE) ⊎ IsCutShort status
IsStatus (Make count seed) status = (status ≡ ANSWERED) ⊎ IsCutShort status
IsStatus Read status = IsAnswer status ⊎ ((status ≡ READ_FAILED) ⊎ IsCutShort status)

-- the text was written whole
abbrev pub IsWhole : Job → ℕ → Type 0
IsWhole Refuse status = status ≡ USAGE
IsWhole (Make count seed) status = status ≡ ANSWERED
IsWhole Read status = IsAnswer status

-- what a failed read leaves: some of the bytes were taken, no line that a newline ends within them
-- is bad, and the text of their whole rounds was written
pub record Stops (bytes : List ℕ) (left before written : Option (List ℕ)) : Type 0 where
  pub taken : List ℕ
  pub rest : List ℕ
  pub same : bytes ≡ taken ++ rest
  pub leaves : left ≡ Some rest
  pub writes : Appends before written (whole_rounds_text taken)
  pub good : exit_status (input_lines (whole_lines taken)) ≡ ANSWERED

-- what a run has read of its source: of the bytes, those before the rest were taken, the last of them
-- by one read; and before this read no line whose newline had been taken was bad
pub record ReadsSparingly (bytes : List ℕ) (left : Option (List ℕ)) : Type 0 where
  pub before : List ℕ
  pub piece : List ℕ
  pub rest : List ℕ
  pub same : bytes ≡ before ++ (piece ++ rest)
  pub leaves : left ≡ Some rest
  pub few : length piece ≤ piece_limit
  pub good : exit_status (input_lines (whole_lines before)) ≡ ANSWERED

-- what a bad line leaves: of the bytes, those before the rest were taken; the source is at its end, or
-- the lines taken have a bad one, if a newline comes after them
pub record ReachesBad (bytes : List ℕ) (left : Option (List ℕ)) : Type 0 where
  pub taken : List ℕ
  pub rest : List ℕ
  pub same : bytes ≡ taken ++ rest
  pub leaves : left ≡ Some rest
  pub shown : (rest ≡ []) ⊎ (exit_status (input_lines (whole_lines (taken ++ newline ∷ []))) ≡ BAD_LINE)

-- what a run over lines with this status has read of its source and written to its sink: with 0 or 3
-- the answer to all bytes, with 4 the replies to the whole rounds of those that came, and else a
-- prefix of the answer
pub record AnswersLines (source left before written : Option (List ℕ)) (status : ℕ) : Type 0 where
  pub text : IsAnswer status → IfSome source (λ bytes. Appends before written (answer bytes).text)
  pub answers : IsAnswer status → IfSome source (λ bytes. status ≡ (answer bytes).status)
  pub whole : status ≡ ANSWERED → IfSome source (λ _. left ≡ Some [])
  pub reached : status ≡ BAD_LINE → IfSome source (λ bytes. ReachesBad bytes left)
  pub sparing : IfSome source (λ bytes. ReadsSparingly bytes left)
  pub stops : status ≡ READ_FAILED → IfSome source (λ bytes. Stops bytes left before written)
  pub part : IsCutShort status
      → IfSome source (λ bytes. AppendsPart before written (answer bytes).text)

-- a run that ends with this status if all went well, and then has written the text; if it was cut
-- short, it has written a prefix
pub record WritesText (done : ℕ) (text : List ℕ) (before written : Option (List ℕ))
    (status : ℕ) : Type 0 where
  pub whole : status ≡ done → Appends before written text
  pub part : IsCutShort status → AppendsPart before written text
