-- What a command line asks for.
use Rattle.std.specs.Prelude.{ℕ, List, [], ◌∷◌, codes, bytes_eq, if◌then◌else◌, Option, Some, None}
use Rattle.tele_lines.specs.Numerals.{numeral_value}
use Rattle.tele_audit.specs.declared.jobs.Job.{Job}
use Rattle.tele_audit.specs.declared.jobs.Job.TheVariants.{Refuse, Pack, Tell}
use Rattle.tele_audit.specs.declared.jobs.Question.TheVariants.{Counts, Between}

-- the interval between two numbers, if both are given
abbrev pub between : Option ℕ → Option ℕ → Job
between (Some first) (Some last) = Tell (Between first last)
between (Some first) None = Refuse
between None last = Refuse

-- what a single argument asks for
abbrev pub job_named : List ℕ → Job
job_named word =
    if bytes_eq word (codes "pack") then Pack
    else (if bytes_eq word (codes "check") then Tell Counts else Refuse)

-- what an argument and two more ask for
abbrev pub job_between : List ℕ → List ℕ → List ℕ → Job
job_between word first last =
    if bytes_eq word (codes "list") then between (numeral_value first) (numeral_value last)
    else Refuse

-- what the arguments after the program's name ask for: `pack`, `check`, or `list` and two numerals
-- below 2 ^ 64; any others are wrong
abbrev pub job_after : List (List ℕ) → Job
job_after [] = Refuse
job_after (word ∷ []) = job_named word
job_after (word ∷ first ∷ []) = Refuse
job_after (word ∷ first ∷ last ∷ []) = job_between word first last
job_after (word ∷ first ∷ last ∷ more ∷ words) = Refuse

-- what a command line asks for; its first argument is the program's name
abbrev pub audit_job : List (List ℕ) → Job
audit_job [] = Refuse
audit_job (name ∷ words) = job_after words
