use Rattle.std.proofs.Common.{ap, arith}
use Rattle.ist_rule.specs.RuleTerms.{TableFace}
use Rattle.ist_rule.proofs.NamedLemmas.{same_id}
use Rattle.ist_rule.proofs.LookLemmas.{looks_moves}
use Rattle.ist_rule.proofs.steps.load.Goals as goal

-- a load keeps the rule
pub load-requires : goal.load-requires
load-requires c = let w = ap (λ (t : TableFace). t.table.words) c.table.view_is in
    let p = c.requires.within in (
      same_id c.token.invariant.3 c.token.view_is c.table.view_is c.requires.same_table,
      omega arith,
      looks_moves _ _ _ _ _ c.token.invariant.1.live,
    )
