use Rattle.std.proofs.Common.{sym, ap, subst, ◌∙◌, arith}
use Rattle.ist_rule.specs.RuleTerms.{TokenFace, TableFace, IsOwn}
use Rattle.ist_rule.proofs.NamedLemmas.{same_id, seat_holds}
use Rattle.ist_rule.proofs.StoreLemmas.{stores_moves, storing_sound}
use Rattle.ist_rule.proofs.steps.store.Goals as goal

-- a store into an own row keeps the rule
pub store-requires : goal.store-requires
store-requires c = let w = ap (λ (t : TableFace). t.table.words) c.table.view_is in
    let p = c.requires.within in
    let own = subst (λ x. IsOwn x c.args.place) (ap (λ (s : TokenFace). s.view) (sym c.token.view_is))
    c.requires.own in (
      same_id c.token.invariant.3 c.token.view_is c.table.view_is c.requires.same_table,
      omega arith,
      stores_moves _ _ _ _ _ _ c.token.invariant.1.live own,
    )

-- the token is sound
pub invariant_of-token : goal.invariant_of-token
invariant_of-token c = let i = c.token.invariant in let e = c.store.ensures in
    let own = subst (λ x. IsOwn x c.args.place) (ap (λ (s : TokenFace). s.view) (sym c.token.view_is))
    c.requires.own in
    seat_holds e.2.0 (e.2.1 ∙ i.0)
    (storing_sound c.token.inside.seat.me.0 c.args.place c.args.word own i.1) i.2 i.3 e.0
