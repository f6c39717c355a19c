use Rattle.std.proofs.Common.{ap, ◌∙◌, inl, inr, refl, rules, arith}
use Rattle.ist_rule.proofs.WentOnLemmas.{went_same}
use Rattle.ist_rows.specs.declared.kinds.Kind.TheVariants as kind
use Rattle.ist_rows.proofs.GoneLemmas.{gone_more}
use Rattle.ist_updates.proofs.PlanLemmas.{row_refused, leaf_planned}
use Rattle.ist_updates.proofs.PairLemmas.{taken_good}
use Rattle.ist_updates.proofs.changing.plan_leaf.Goals as goal

-- the leaf was refused
pub returns-in_err-leaf-clause-full : goal.returns-in_err-leaf-clause-full
returns-in_err-leaf-clause-full c =
    row_refused _ _ c.from_residual.ensures.1 (went_same _ _ c.know.ensures.sound)
    c.in_err-leaf.ensures.full (inl refl)

-- the change's row was refused
pub returns-in_err-base-clause-gone : goal.returns-in_err-base-clause-gone
returns-in_err-base-clause-gone c =
    gone_more _ _ _ _ c.in_ok-leaf.ensures.gone c.in_err-base.ensures.gone

pub returns-in_err-base-clause-full : goal.returns-in_err-base-clause-full
returns-in_err-base-clause-full c =
    row_refused _ _ c.from_residual-in_err-base.ensures.1 c.in_ok-leaf.ensures.gone.went
    c.in_err-base.ensures.full (inr refl)

-- the leaf lies at a good base
pub to_word-to-requires : goal.to_word-to-requires
to_word-to-requires c =
    record { good = taken_good c.in_ok-leaf.ensures.gone kind.Leaf c.in_ok-leaf.ensures.held (omega arith) }

-- the plan is one for the slot
pub returns : goal.returns
returns c = let leaf = c.in_ok-leaf.ensures in let change = c.in_ok-base.ensures in
    let all = gone_more _ _ _ _ leaf.gone change.gone in
    let planned = leaf_planned _ c.args.who.now c.take-2.new.who all.went c.args.aim c.requires.at_slot _
    change.held c.args.value _ _ c.requires.room (ap (λ s. s.leaf) change.rows ∙ leaf.held)
    (taken_good leaf.gone kind.Leaf leaf.held (omega arith)) c.to_word-to.ensures.value _
    c.change_for-row.ensures.value in search rules
