-- Which job the command line asks for, and how each may end. Serves the reading of the command line,
-- and the run.
use Rattle.std.proofs.Common.{◌≡◌, ℕ, List, Bool, true, false, inl, inr, refl, sym, ◌∙◌, ap, arith, lit<}
use Rattle.std.specs.Prelude.{Some, None, if◌then◌else◌}
use Rattle.tele_jobs.specs.CommandLine.{are_refused, options_in}
use Rattle.tele_jobs.specs.declared.options.Options.{Options}
use Rattle.tele_jobs.specs.declared.jobs.Job.{Job}
use Rattle.tele_jobs.specs.declared.jobs.Job.TheVariants.{Refuse, Make, Read}
use Rattle.tele_jobs.specs.declared.outcomes.TheConstants.{USAGE, READ_FAILED}
use Rattle.tele_jobs.specs.Causes.{IsStatus}
use Rattle.tele_jobs.specs.Jobs.{job_for, job_of}
use Rattle.tele_jobs.proofs.CauseLemmas.{cut_above}

-- the job, by whether the command line is refused and by its options
abbrev job_by : Bool → Options → Job
job_by refused options = if refused then Refuse else job_for options.generate options.seed

-- the job of a command line that is accepted
taken : (words : List (List ℕ)) (options : Options) → are_refused words ≡ false → options ≡
    options_in words → job_for options.generate options.seed ≡ job_of words
unfolding job_of
taken words options is same = grind arith

-- to make lines
pub makes : (words : List (List ℕ)) (options : Options) (count : ℕ) → are_refused words ≡ false →
    options ≡ options_in words
    → options.generate ≡ Some count → Make count options.seed ≡ job_of words
makes words options count is same some = sym (ap (λ g. job_for g options.seed) some) ∙ taken words
    options is same

-- to read lines
pub reads : (words : List (List ℕ)) (options : Options) → are_refused words ≡ false → options ≡
    options_in words → options.generate ≡ None → Read ≡ job_of words
reads words options is same none = sym (ap (λ g. job_for g options.seed) none) ∙ taken words options
    is same

-- to report a command line that is refused
pub refuses : (words : List (List ℕ)) → are_refused words ≡ true → Refuse ≡ job_of words
unfolding job_of
refuses words is = ap (λ b. job_by b (options_in words)) (sym is)

-- what holds of the lines of a job holds whichever numbers the job is known by
pub of_same_lines : (P : ℕ → ℕ → Type 0) (job : Job) (count seed many from : ℕ)
    → job ≡ Make count seed → job ≡ Make many from → P count seed → P many from
of_same_lines P job count seed many from is same h = grind arith

-- a job is either to read lines, or it isn't
pub by_reading : {P : Type 0} (job : Job) → (job ≡ Read → P) → (¬ (job ≡ Read) → P) → P
by_reading Refuse reads other = other (λ e. absurd (cc e))
by_reading (Make count seed) reads other = other (λ e. absurd (cc e))
by_reading Read reads other = reads refl

-- only a run over lines ends with a failed read
pub reads_failed : (job : Job) (status : ℕ) → IsStatus job status → status ≡ READ_FAILED → job ≡ Read
reads_failed Refuse status (inl usage) is = absurd (omega (arith, usage, is))
reads_failed Refuse status (inr cut) is = cut_above status READ_FAILED (lit< tt) cut is
reads_failed (Make count seed) status (inl whole) is = absurd (omega (arith, whole, is))
reads_failed (Make count seed) status (inr cut) is = cut_above status READ_FAILED (lit< tt) cut is
reads_failed Read status s is = refl

-- only a run whose command line is refused reports that
pub reports_usage : (job : Job) (status : ℕ) → IsStatus job status → status ≡ USAGE → job ≡ Refuse
reports_usage Refuse status s is = refl
reports_usage (Make count seed) status (inl whole) is = absurd (omega (arith, whole, is))
reports_usage (Make count seed) status (inr cut) is = cut_above status USAGE (lit< tt) cut is
reports_usage Read status (inl (inl whole)) is = absurd (omega (arith, whole, is))
reports_usage Read status (inl (inr bad)) is = absurd (omega (arith, bad, is))
reports_usage Read status (inr (inl failed)) is = absurd (omega (arith, failed, is))
reports_usage Read status (inr (inr cut)) is = cut_above status USAGE (lit< tt) cut is
