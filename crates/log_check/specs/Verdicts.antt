-- What is said of a log, and when it is true.
use Rattle.std.specs.Prelude.{◌≡◌, ℕ, reverse}
use Rattle.ist_core.specs.Snapshots.{Snapshot}
use Rattle.ist_core.specs.Lawful.{Lawful, state_of}
use Rattle.ist_check.specs.Verdicts.{IsFirstUnlawful, FailsAt}
use Rattle.log_check.specs.declared.logs.Log.{Log}
use Rattle.log_check.specs.declared.verdicts.Verdict.{Verdict}
use Rattle.log_check.specs.declared.verdicts.Verdict.TheVariants.{AllLawful, Unlawful}

-- the state has this first free word, this many callers, and this word in the anchor's slot
pub record HasNumbers (t : Snapshot) (next callers anchor : ℕ) : Type 0 where
  pub next_is : next ≡ t.next
  pub callers_are : callers ≡ t.callers
  pub anchor_is : anchor ≡ t.anchor

-- the events of the log are lawful, and the state after them has these numbers
pub record HasNumbersAfter (log : Log) (next callers anchor : ℕ) : Type 0 where
  pub lawful : Lawful log.pairs.items log.words (reverse log.events.items)
  pub numbers : HasNumbers (state_of log.pairs.items log.words (reverse log.events.items)) next callers anchor

-- what is said of the log is true
abbrev pub IsTrueOf : Log → Verdict → Type 0
IsTrueOf log (AllLawful next callers anchor) = HasNumbersAfter log next callers anchor
IsTrueOf log (Unlawful at condition) =
    IsFirstUnlawful log.pairs.items log.words log.events.items at
    × FailsAt log.pairs.items log.words log.events.items at condition
