use Rattle.std.proofs.Common.{None, ap, refl, sym}
use Rattle.ist_core.specs.TreeTerms.{value_at}
use Rattle.ist_rule.specs.RuleTerms.{now}
use Rattle.ist_rule.proofs.EventLemmas.{goes_on_same}
use Rattle.ist_updates.specs.Asking.{command_for}
use Rattle.ist_updates.proofs.MissLemmas.{none_missed}
use Rattle.ist_updates.proofs.TriedLemmas.{found_nothing}
use Rattle.ist_updates.proofs.TryResultLemmas.{changed_tried, leaf_unchanged, nothing_tried, unmet_tried}
use Rattle.ist_updates.proofs.trying.try_empty.Goals as goal

-- the key has no value, but the update requires one
pub returns-then-not-meets-clause-tried : goal.returns-then-not-meets-clause-tried
returns-then-not-meets-clause-tried c =
    unmet_tried _ c.args.aim c.args.update.value _ c.know.ensures.sound c.requires.asked.0

pub returns-then-not-meets-clause-missed : goal.returns-then-not-meets-clause-missed
returns-then-not-meets-clause-missed c e =
    none_missed _ _ (goes_on_same _ c.know.ensures.sound) c.args.aim c.requires.at_slot c.args.update.when
    c.requires.empty (c.if-not-meets.ensures.missed refl)

-- a put
pub returns-in_err-taken-in-Some-clause-tried : goal.returns-in_err-taken-in-Some-clause-tried
returns-in_err-taken-in-Some-clause-tried c =
    leaf_unchanged _ c.from_residual.ensures.1 c.in-Some.is c.in_err-taken-in-Some.ensures.changed

pub returns-in_ok-taken-in-Some-clause-tried : goal.returns-in_ok-taken-in-Some-clause-tried
returns-in_ok-taken-in-Some-clause-tried c = changed_tried c.args.update.value c.answer.result None
    (ap (command_for c.args.aim.key) (sym c.in-Some.is)) c.in_ok-taken-in-Some.ensures.changed
    c.answer.ensures.took c.answer.ensures.again
    (ap (λ r. value_at (now c.args.who.now.token.view).pieces r c.args.aim.key) c.requires.empty)

-- nothing is there to remove
pub returns-in-None-clause-tried : goal.returns-in-None-clause-tried
returns-in-None-clause-tried c =
    nothing_tried _ c.args.aim c.args.update.value _ c.know.ensures.sound c.requires.asked.0 c.in-None.is
    (found_nothing _ c.args.aim c.requires.at_slot c.requires.empty)
