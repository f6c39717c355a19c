-- What carrying out a plan promises, by what came of its change. Serves `carry_out`.
use Rattle.std.proofs.Common.{◌≡◌, Bool, false, subst}
use Rattle.ist_core.specs.TreeTerms.{IsUpdate}
use Rattle.ist_rule.specs.RuleTerms.{TokenFace, WentOn, now, GoesOnTo, IsSound}
use Rattle.ist_rows.specs.RowTerms.{HasRefused, IsCaller}
use Rattle.ist_rows.specs.declared.callers.Caller.{Caller}
use Rattle.ist_dcss.specs.Helping.{IsDecided, IsOut, Serves}
use Rattle.ist_dcss.specs.Installing.{IsInstallable, IsInstalled}
use Rattle.ist_updates.specs.declared.plans.PlannedChange.{PlannedChange}
use Rattle.ist_updates.specs.Answering.{HasCarried}
use Rattle.ist_updates.specs.Changing.{HasRows, filling_of}
use Rattle.ist_updates.specs.Further.{HoldsElse}
use Rattle.ist_updates.specs.Trying.{Tries}
use Rattle.ist_updates.proofs.AfterLemmas.{after_loads, after_went}
use Rattle.ist_updates.proofs.HelpedChangeLemmas.{missed_gone, missed_quiet, missed_asked, carried_gone, carried_quiet, carried_yes, carried_no}
use Rattle.ist_updates.proofs.FurtherLemmas.{installed_further, other_further}

-- the slot held another word
pub missed_carried : (old new : Caller) {plan : PlannedChange} → IsCaller old
    → IsInstallable old.token.view plan.base (filling_of plan) → IsCaller new
    → new.number ≡ old.number → HasRefused new → GoesOnTo old.token.view new.token.view
    → HoldsElse (now new.token.view) plan.row → HasCarried old plan false new
missed_carried old new {plan} c m caller number refused g other = record {
  on = record {
    gone = missed_gone old new caller number refused g Tries;
    quiet = missed_quiet old new plan c m number g;
  };
  took = λ is. absurd (cc);
  lost = λ is. missed_asked old new caller number refused g;
  further = λ is first aimed. other_further first old.token.view new.token.view plan.row.node
      plan.row.index plan.row.from aimed (after_loads old.token.view new.token.view g) g.sound
      other.word other.holds other.differs;
}

-- the change was installed and helped
module _ (old mid : Caller) (token : TokenFace) (plan : PlannedChange) (c : IsCaller old)
    (s : IsSound old.token.view) (rows : HasRows old plan) (update : IsUpdate plan.row.kind)
    (m : IsInstallable old.token.view plan.base (filling_of plan)) (caller : IsCaller mid)
    (refused : HasRefused mid) (number : mid.number ≡ old.number)
    (i : IsInstalled old.token.view plan.base (filling_of plan) mid.token.view)
    (g : WentOn (Serves plan.base) mid.token.view token.view) (out : IsOut token.view plan.base) where
  abbrev new : Caller
  new = record mid { token = token }

  -- whatever it was decided
  pub helped_carried : (taken : Bool) → IsDecided token.view plan.base taken
      → HasCarried old plan taken new
  helped_carried taken d = record {
    on = record {
      gone = carried_gone old mid token plan c s rows update m caller refused number i g;
      quiet = carried_quiet old mid token plan c s rows update m caller refused number i g out;
    };
    took = λ is. carried_yes old mid token plan c s rows update m caller refused number i g
        (subst (IsDecided token.view plan.base) is d);
    lost = λ is. carried_no old mid token plan c s rows update m caller refused number i g
        (subst (IsDecided token.view plan.base) is d) out;
    further = λ is first aimed. installed_further first old.token.view mid.token.view token.view
        plan.row.node plan.row.index plan.row.from plan.base (filling_of plan) aimed i
        (after_went (Serves plan.base) mid.token.view token.view g);
  }
