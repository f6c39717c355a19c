use Rattle.std.proofs.Common.{sym, ap, subst, arith}
use Rattle.ist_rule.specs.RuleTerms.{TokenFace, TableFace, CanAdd}
use Rattle.ist_rule.proofs.NamedLemmas.{same_id}
use Rattle.ist_rule.proofs.ExchangeLemmas.{adds_moves}
use Rattle.ist_rule.proofs.steps.add.Goals as goal

-- an add that may be made keeps the rule
pub fetch_add-requires : goal.fetch_add-requires
fetch_add-requires g c = let w = ap (λ (t : TableFace). t.table.words) c.table.view_is in
    let p = c.requires.1.0 in
    let can = subst (λ x. CanAdd x c.args.place g.event)
    (ap (λ (s : TokenFace). s.view) (sym c.token.view_is)) c.requires.1.1 in (
      same_id c.token.invariant.3 c.token.view_is c.table.view_is c.requires.0,
      omega arith,
      adds_moves _ _ _ _ _ _ c.token.invariant.1.live can,
    )
