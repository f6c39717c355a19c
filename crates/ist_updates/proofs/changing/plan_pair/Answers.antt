use Rattle.std.proofs.Common.{ap, ◌∙◌, inl, inr, refl, rules, arith}
use Rattle.ist_rule.proofs.WentOnLemmas.{went_grow, went_same}
use Rattle.ist_rows.specs.declared.kinds.Kind.TheVariants as kind
use Rattle.ist_rows.proofs.GoneLemmas.{gone_more}
use Rattle.ist_updates.proofs.PlanLemmas.{row_refused, slot_node, pair_planned}
use Rattle.ist_updates.proofs.PairLemmas.{node_on, taken_good}
use Rattle.ist_updates.proofs.changing.plan_pair.Goals as goal

-- the node is one
pub take_pair-requires-clause-node : goal.take_pair-requires-clause-node
take_pair-requires-clause-node c =
    node_on _ _ (went_grow _ _ _ c.in_ok-leaf.ensures.gone.went) _ (slot_node _ c.args.aim c.requires.at_slot)

-- one of the rows was refused
pub returns-in_err-leaf-clause-full : goal.returns-in_err-leaf-clause-full
returns-in_err-leaf-clause-full c =
    row_refused _ _ c.from_residual.ensures.1 (went_same _ _ c.know.ensures.sound)
    c.in_err-leaf.ensures.full (inl refl)

pub returns-in_err-pair-clause-gone : goal.returns-in_err-pair-clause-gone
returns-in_err-pair-clause-gone c =
    gone_more _ _ _ _ c.in_ok-leaf.ensures.gone c.in_err-pair.ensures.gone

pub returns-in_err-pair-clause-full : goal.returns-in_err-pair-clause-full
returns-in_err-pair-clause-full c =
    row_refused _ _ c.from_residual-in_err-pair.ensures.1 c.in_ok-leaf.ensures.gone.went
    c.in_err-pair.ensures.full (inr (inl refl))

pub returns-in_err-base-clause-gone : goal.returns-in_err-base-clause-gone
returns-in_err-base-clause-gone c =
    let two = gone_more _ _ _ _ c.in_ok-leaf.ensures.gone c.in_ok-pair.ensures.gone in
    gone_more _ _ _ _ two c.in_err-base.ensures.gone

pub returns-in_err-base-clause-full : goal.returns-in_err-base-clause-full
returns-in_err-base-clause-full c =
    let two = gone_more _ _ _ _ c.in_ok-leaf.ensures.gone c.in_ok-pair.ensures.gone in
    row_refused _ _ c.from_residual-in_err-base.ensures.1 two.went c.in_err-base.ensures.full (inr (inr refl))

pub to_word-to-requires : goal.to_word-to-requires
to_word-to-requires c =
    record { good = taken_good c.in_ok-pair.ensures.gone kind.Pair c.in_ok-pair.ensures.held (omega arith) }

-- the plan is one for the slot
pub returns : goal.returns
returns c =
    let leaf = c.in_ok-leaf.ensures in let pair = c.in_ok-pair.ensures in let change = c.in_ok-base.ensures in
    let all = gone_more _ _ _ _ (gone_more _ _ _ _ leaf.gone pair.gone) change.gone in
    let planned = pair_planned _ c.args.who.now c.take-2.new.who all.went c.args.aim c.requires.at_slot _
    change.held all.caller c.requires.room
    (ap (λ s. s.leaf) change.rows ∙ pair.others.0 ∙ leaf.held) (ap (λ s. s.pair) change.rows ∙ pair.held)
    pair.above c.to_word-to.ensures.value c.change_for-row.ensures.value in search rules
