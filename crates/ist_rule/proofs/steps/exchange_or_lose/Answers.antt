use Rattle.std.proofs.Common.{refl, sym, ap, subst, ◌∙◌, arith}
use Rattle.ist_rule.specs.RuleTerms.{TokenFace, TableFace, CanExchangeOrLose}
use Rattle.ist_rule.proofs.NamedLemmas.{same_id, seat_holds}
use Rattle.ist_rule.proofs.LeavingLemmas.{exchanges_or_loses_moves, exchanged_or_lost_sound}
use Rattle.ist_rule.proofs.steps.exchange_or_lose.Goals as goal

-- an exchange that may be made keeps the rule
pub compare_exchange-requires : goal.compare_exchange-requires
compare_exchange-requires g c = let w = ap (λ (t : TableFace). t.table.words) c.table.view_is in
    let p = c.requires.1.0 in
    let can = subst (λ x. CanExchangeOrLose x c.args.place c.args.old c.args.new
    g.events.0 g.events.1)
    (ap (λ (s : TokenFace). s.view) (sym c.token.view_is)) c.requires.1.1 in (
      same_id c.token.invariant.3 c.token.view_is c.table.view_is c.requires.0,
      omega arith,
      exchanges_or_loses_moves _ _ _ _ _ _ _ g.events c.token.invariant.1.live can,
    )

-- the token is sound
pub invariant_of-token : goal.invariant_of-token
invariant_of-token g c = let i = c.token.invariant in let e = c.compare_exchange.ensures in
    let it = exchanged_or_lost_sound _ _ _ _ _ _ _ e.2.0 in
    seat_holds refl (e.2.1 ∙ i.0) it.0 (it.1 ∙ i.2) (it.2 ∙ i.3) e.0
