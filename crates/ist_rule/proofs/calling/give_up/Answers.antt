use Rattle.std.proofs.Common.{sym, ap, subst, arith}
use Rattle.ist_rule.specs.RuleTerms.{TokenFace, CanGiveUp}
use Rattle.ist_rule.proofs.NamedLemmas.{same_id}
use Rattle.ist_rule.proofs.CallPlayLemmas.{gives_up_moves}
use Rattle.ist_rule.proofs.calling.give_up.Goals as goal

-- a load that gives up a call keeps the rule
pub load-requires : goal.load-requires
load-requires c = let i = c.table.invariant in
    let can = subst CanGiveUp (ap (λ (s : TokenFace). s.view) (sym c.token.view_is))
    c.requires.may_give_up in (
      same_id c.token.invariant.3 c.token.view_is c.table.view_is c.requires.same_table,
      omega arith,
      gives_up_moves _ _ _ _ c.token.invariant.1.live can,
    )
