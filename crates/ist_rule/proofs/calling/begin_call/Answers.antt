use Rattle.std.proofs.Common.{sym, ap, subst, arith}
use Rattle.ist_rule.specs.RuleTerms.{TokenFace, CanBegin}
use Rattle.ist_rule.proofs.NamedLemmas.{same_id}
use Rattle.ist_rule.proofs.CallPlayLemmas.{begins_moves}
use Rattle.ist_rule.proofs.calling.begin_call.Goals as goal

-- a load that begins a call keeps the rule
pub load-requires : goal.load-requires
load-requires g c = let i = c.table.invariant in
    let can = subst CanBegin (ap (λ (s : TokenFace). s.view) (sym c.token.view_is))
    c.requires.1.0 in (
      same_id c.token.invariant.3 c.token.view_is c.table.view_is c.requires.0,
      omega arith,
      begins_moves _ _ _ _ _ c.token.invariant.1.live can,
    )
