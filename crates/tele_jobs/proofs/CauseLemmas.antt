-- What a run did not end with, by its status. Serves the steps of a run.
use Rattle.std.proofs.Common.{◌≡◌, ℕ, ◌<◌, inl, inr, arith}
use Rattle.tele_jobs.specs.Causes.{IsAnswer, IsCutShort}
use Rattle.tele_jobs.specs.declared.outcomes.TheConstants.{WRITE_FAILED}

-- a run with a lower status wasn't cut short
pub uncut : {P : Type 0} (status : ℕ) → status < WRITE_FAILED → IsCutShort status → P
uncut status low (inl failed) = absurd (omega arith)
uncut status low (inr wanting) = absurd (omega arith)

-- a run that was cut short wasn't answered
pub cut_unanswered : {P : Type 0} (status : ℕ) → IsCutShort status → IsAnswer status → P
cut_unanswered status (inl failed) (inl whole) = absurd (omega arith)
cut_unanswered status (inl failed) (inr bad) = absurd (omega arith)
cut_unanswered status (inr wanting) (inl whole) = absurd (omega arith)
cut_unanswered status (inr wanting) (inr bad) = absurd (omega arith)

-- nor has it a lower status
pub cut_above : {P : Type 0} (status other : ℕ) → other < WRITE_FAILED → IsCutShort status
    → status ≡ other → P
cut_above status other low (inl failed) is = absurd (omega arith)
cut_above status other low (inr wanting) is = absurd (omega arith)
