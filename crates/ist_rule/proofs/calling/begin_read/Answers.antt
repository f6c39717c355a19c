use Rattle.std.proofs.Common.{sym, ap, subst, arith}
use Rattle.ist_rule.specs.RuleTerms.{TokenFace, CanBegin}
use Rattle.ist_rule.proofs.NamedLemmas.{same_id}
use Rattle.ist_rule.proofs.CallPlayLemmas.{reads_moves, may_walk}
use Rattle.ist_rule.proofs.calling.begin_read.Goals as goal

-- a load that begins a read keeps the rule
pub load-requires : goal.load-requires
load-requires c = let i = c.table.invariant in
    let can = subst CanBegin (ap (λ (s : TokenFace). s.view) (sym c.token.view_is))
    c.requires.may_begin in (
      same_id c.token.invariant.3 c.token.view_is c.table.view_is c.requires.same_table,
      omega arith,
      reads_moves _ _ _ _ c.token.invariant.1.live can,
    )

-- a walk may begin then
pub returns-clause-may_walk : goal.returns-clause-may_walk
returns-clause-may_walk c = may_walk _ _ (ap (λ x. x.searches) c.load.ensures.2.0.view)
    (ap (λ x. x.loads.list) c.load.ensures.2.0.view)
