use Rattle.std.proofs.Common.{Some, None, refl}
use Rattle.ist_rule.specs.RuleTerms.{now}
use Rattle.ist_updates.proofs.AfterLemmas.{own_value}
use Rattle.ist_updates.proofs.TriedLemmas.{found_other, found_key}
use Rattle.ist_updates.proofs.TryResultLemmas.{changed_tried, nothing_tried, remove_unchanged}
use Rattle.ist_updates.proofs.trying.remove_at.Goals as goal

-- the slot holds a leaf of another key
pub returns-then-leaf-aim-clause-tried : goal.returns-then-leaf-aim-clause-tried
returns-then-leaf-aim-clause-tried c =
    nothing_tried _ c.args.aim None _ c.know.ensures.sound c.requires.asked.0 refl
    (found_other _ c.args.aim c.requires.at_slot c.args.base c.args.leaf c.requires.leaf
    c.requires.stands c.if-leaf-aim.true)

-- the change's row was refused
pub returns-in_err-removed-clause-tried : goal.returns-in_err-removed-clause-tried
returns-in_err-removed-clause-tried c =
    remove_unchanged _ c.from_residual.ensures.1 c.in_err-removed.ensures.changed
    (found_key _ c.args.aim c.requires.at_slot c.args.base c.args.leaf c.requires.leaf
    c.requires.stands c.if-leaf-aim.false)

-- the remove was carried out or lost
pub returns-clause-tried : goal.returns-clause-tried
returns-clause-tried c =
    changed_tried None c.answer.result (Some c.args.leaf.value) refl c.in_ok-removed.ensures.changed
    c.answer.ensures.took c.answer.ensures.again
    (own_value (now c.args.who.now.token.view).pieces _ c.requires.leaf c.requires.stands c.if-leaf-aim.false)
