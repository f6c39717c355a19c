use Rattle.std.proofs.Common.{refl, sym, ap, subst, ◌∙◌, arith}
use Rattle.ist_rule.specs.RuleTerms.{TokenFace, TableFace, CanLoadAs}
use Rattle.ist_rule.proofs.NamedLemmas.{same_id, seat_holds}
use Rattle.ist_rule.proofs.LeavingLemmas.{loads_as_moves, loaded_as_sound}
use Rattle.ist_rule.proofs.watching.load_as.Goals as goal

-- a load that is an event if it is named so keeps the rule
pub load-requires : goal.load-requires
load-requires g c = let w = ap (λ (t : TableFace). t.table.words) c.table.view_is in
    let p = c.requires.1.0 in
    let can = subst (λ x. CanLoadAs x c.args.place g.event)
    (ap (λ (s : TokenFace). s.view) (sym c.token.view_is)) c.requires.1.1 in (
      same_id c.token.invariant.3 c.token.view_is c.table.view_is c.requires.0,
      omega arith,
      loads_as_moves _ _ _ _ _ _ c.token.invariant.1.live can,
    )

-- the token is sound
pub invariant_of-token : goal.invariant_of-token
invariant_of-token g c = let i = c.token.invariant in let e = c.load.ensures in
    let it = loaded_as_sound _ _ _ _ _ e.2.0 in
    seat_holds refl (e.2.1 ∙ i.0) it.0 (it.1 ∙ i.2) (it.2 ∙ i.3) e.0
