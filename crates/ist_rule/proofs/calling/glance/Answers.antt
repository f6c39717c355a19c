use Rattle.std.proofs.Common.{sym, ap, subst, arith}
use Rattle.ist_rule.specs.RuleTerms.{TokenFace, CanBegin}
use Rattle.ist_rule.proofs.NamedLemmas.{same_id}
use Rattle.ist_rule.proofs.CallPlayLemmas.{glances_moves}
use Rattle.ist_rule.proofs.calling.glance.Goals as goal

-- a load that is a read of its own keeps the rule
pub load-requires : goal.load-requires
load-requires c = let i = c.table.invariant in
    let can = subst CanBegin (ap (λ (s : TokenFace). s.view) (sym c.token.view_is))
    c.requires.may_begin in (
      same_id c.token.invariant.3 c.token.view_is c.table.view_is c.requires.same_table,
      omega arith,
      glances_moves _ _ _ _ c.token.invariant.1.live can,
    )
