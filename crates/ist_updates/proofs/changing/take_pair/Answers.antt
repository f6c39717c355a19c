use Rattle.std.proofs.Common.{ap, ◌∙◌, ⊎_elim, rules, arith}
use Rattle.ist_rows.specs.RowTerms.{Spares}
use Rattle.ist_rows.specs.declared.kinds.Kind.TheVariants.{Pair}
use Rattle.ist_rule.proofs.WentOnLemmas.{went_grow}
use Rattle.ist_updates.specs.Changing.{Prepares}
use Rattle.ist_updates.proofs.PlanLemmas.{short_after}
use Rattle.ist_rows.proofs.GoneLemmas.{gone_more}
use Rattle.ist_updates.proofs.PairLemmas.{fresh_above, node_on, taken_good}
use Rattle.ist_updates.proofs.changing.take_pair.Goals as goal

pub returns-in_err-base-clause-gone : goal.returns-in_err-base-clause-gone
returns-in_err-base-clause-gone c =
    gone_more Prepares _ _ _ c.drop_below.ensures.gone c.in_err-base.ensures.gone

pub returns-in_err-base-clause-full : goal.returns-in_err-base-clause-full
returns-in_err-base-clause-full c = let gone = c.drop_below.ensures.gone in
    let full = short_after Prepares _ _ _ _ _ gone.went c.in_err-base.ensures.full in search rules

pub returns-clause-gone : goal.returns-clause-gone
returns-clause-gone c = gone_more Prepares _ _ _ c.drop_below.ensures.gone c.in_ok-base.ensures.gone

-- the other rows are held still
pub returns-clause-others : goal.returns-clause-others
returns-clause-others c =
    let others = c.drop_below.ensures.others in let rows = c.in_ok-base.ensures.rows in (
      ap (λ (s : Spares). s.leaf) rows ∙ others.0,
      ap (λ (s : Spares). s.change) rows ∙ others.1,
    )

-- the row lies above the node
pub returns-clause-above : goal.returns-clause-above
returns-clause-above c =
    let went = c.drop_below.ensures.gone.went in let base = c.in_ok-base.ensures in
    ⊎_elim (λ is. c.drop_below.ensures.above c.in_ok-base.base is)
    (λ high. fresh_above _ went.sound c.args.node c.in_ok-base.base
    (node_on _ _ (went_grow Prepares _ _ went) c.args.node c.requires.node) high
    (taken_good base.gone Pair base.held (omega arith))) base.high
