-- What a run has to do, by its command line.
use Rattle.std.specs.Prelude.{ℕ, List, Option, Some, None, if◌then◌else◌}
use Rattle.tele_jobs.specs.CommandLine.{are_refused, options_in}
use Rattle.tele_jobs.specs.declared.jobs.Job.{Job}
use Rattle.tele_jobs.specs.declared.jobs.Job.TheVariants.{Refuse, Make, Read}

-- to make the given number of lines; without a number, to read lines
abbrev pub job_for : Option ℕ → ℕ → Job
job_for (Some count) seed = Make count seed
job_for None seed = Read

-- what the command line asks for; one that `clap` refuses is reported
unfoldable pub job_of : List (List ℕ) → Job
job_of words =
    if are_refused words then Refuse
    else job_for (options_in words).generate (options_in words).seed
