-- A log that was read from a text, and whether its table may be opened.
use Rattle.ist_core.specs.Lawful.{CanOpen}
use Rattle.log_check.specs.declared.logs.Log.{Log}
use Rattle.log_check.specs.declared.logs.Reading.{Reading}
use Rattle.log_check.specs.declared.logs.Reading.TheVariants.{Whole, OutOfForm}

-- the table of the log may be opened
abbrev pub LogOpens : Log → Type 0
LogOpens log = CanOpen log.pairs.items log.words

-- the table of a log that was read may be opened; a text of a wrong form has no table
abbrev pub Opens : Reading → Type 0
Opens (Whole log) = LogOpens log
Opens (OutOfForm line fault) = Unit {0}
