use Rattle.std.proofs.Common.{arith}
use Rattle.ist_rule.proofs.NamedLemmas.{same_id}
use Rattle.ist_rule.proofs.LookLemmas.{looks_moves}
use Rattle.ist_rule.proofs.steps.load_top.Goals as goal

-- a load keeps the rule, and each table has the anchor's words
pub load-requires : goal.load-requires
load-requires c = let same = c.table.invariant.0 in
    let least = c.table.invariant.1 in (
      same_id c.token.invariant.3 c.token.view_is c.table.view_is c.requires.same_table,
      omega arith,
      looks_moves _ _ _ _ _ c.token.invariant.1.live,
    )
