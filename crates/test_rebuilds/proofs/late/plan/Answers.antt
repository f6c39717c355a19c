use Rattle.std.proofs.Common.{arith}
use Rattle.ist_rows.specs.declared.kinds.Kind.TheVariants as kind
use Rattle.ist_updates.specs.Changing.{Prepares}
use Rattle.ist_rows.proofs.GoneLemmas.{gone_more}
use Rattle.ist_updates.proofs.PairLemmas.{row_good}
use Rattle.test_rebuilds.proofs.late.plan.Goals as goal

-- the leaf lies at a good base
pub to_word-requires : goal.to_word-requires
to_word-requires c = let gone = c.in_ok-leaf.ensures.gone in record {
  good = row_good _ gone.went.sound gone.caller kind.Leaf c.in_ok-leaf.leaf
      c.in_ok-leaf.ensures.held (omega arith);
}

pub returns-clause-good : goal.returns-clause-good
returns-clause-good c = let gone = c.in_ok-leaf.ensures.gone in
    row_good _ gone.went.sound gone.caller kind.Leaf c.in_ok-leaf.leaf c.in_ok-leaf.ensures.held
    (omega arith)

-- both rows were taken
pub returns-clause-gone : goal.returns-clause-gone
returns-clause-gone c =
    gone_more Prepares _ _ _ c.in_ok-leaf.ensures.gone c.in_ok-change.ensures.gone
