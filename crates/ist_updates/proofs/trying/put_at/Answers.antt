use Rattle.std.proofs.Common.{Some, None, refl}
use Rattle.ist_core.specs.TreeTerms.{same_key}
use Rattle.ist_rule.specs.RuleTerms.{now}
use Rattle.ist_updates.proofs.AfterLemmas.{own_value, other_value}
use Rattle.ist_updates.proofs.TryResultLemmas.{changed_tried, leaf_unchanged, pair_unchanged}
use Rattle.ist_updates.proofs.trying.put_at.Goals as goal

-- a leaf of the key leaves room
pub change_slot-requires-clause-room : goal.change_slot-requires-clause-room
change_slot-requires-clause-room c = let row = c.args.leaf in same_key c.args.base c.requires.leaf
    record { row = row; published = c.requires.stands; key_is = c.if-leaf-aim.true }

-- the put was over a leaf of the key
pub returns-in_err-taken-clause-tried : goal.returns-in_err-taken-clause-tried
returns-in_err-taken-clause-tried c =
    leaf_unchanged _ c.from_residual.ensures.1 refl c.in_err-taken.ensures.changed

pub returns-then-leaf-aim-clause-tried : goal.returns-then-leaf-aim-clause-tried
returns-then-leaf-aim-clause-tried c =
    changed_tried (Some c.args.value) c.answer.result (Some c.args.leaf.value) refl
    c.in_ok-taken.ensures.changed c.answer.ensures.took c.answer.ensures.again
    (own_value (now c.args.who.now.token.view).pieces _ c.requires.leaf c.requires.stands c.if-leaf-aim.true)

-- or beside one of another key
pub returns-in_err-beside-clause-tried : goal.returns-in_err-beside-clause-tried
returns-in_err-beside-clause-tried c =
    pair_unchanged _ c.from_residual-in_err-beside.ensures.1 c.requires.at_slot c.requires.leaf
    c.requires.stands c.if-leaf-aim.false c.in_err-beside.ensures.changed

pub returns-clause-tried : goal.returns-clause-tried
returns-clause-tried c =
    changed_tried (Some c.args.value) c.answer-2.result None refl c.in_ok-beside.ensures.changed
    c.answer-2.ensures.took c.answer-2.ensures.again
    (other_value (now c.args.who.now.token.view).pieces _ c.requires.leaf c.requires.stands c.if-leaf-aim.false)
