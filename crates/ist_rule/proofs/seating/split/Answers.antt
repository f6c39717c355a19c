use Rattle.std.proofs.Common.{◌∙◌, ap, arith}
use Rattle.ist_rule.specs.RuleTerms.{Seated}
use Rattle.ist_rule.proofs.NamedLemmas.{same_id, seat_holds}
use Rattle.ist_rule.proofs.LeavingLemmas.{splits, left_sound, right_sound, left_table, right_table}
use Rattle.ist_rule.proofs.seating.split.Goals as goal

-- a split keeps the rule
pub split_seat-requires : goal.split_seat-requires
split_seat-requires c =
    let i = c.table.invariant in (
      same_id c.token.invariant.3 c.token.view_is c.table.view_is c.requires.same_table,
      omega arith,
      splits _ _ _ c.token.invariant.1.live,
    )

-- the token that was split is sound
pub invariant_of-token : goal.invariant_of-token
invariant_of-token c = let i = c.token.invariant in let me = c.split_seat.ensures.2 in
    let of = left_table c.token.inside.seat.me.0 in
    seat_holds (ap (λ (m : Seated). m.0) me) (ap (λ (m : Seated). m.1) me ∙ i.0) (left_sound _ i.1) (of.0 ∙ i.2)
    (of.1 ∙ i.3) c.split_seat.ensures.0

-- the new token keeps the invariant too
pub invariant_of-result : goal.invariant_of-result
invariant_of-result c = let i = c.token.invariant in let me = c.split_seat.ensures.4 in
    let of = right_table c.token.inside.seat.me.0 in
    seat_holds (ap (λ (m : Seated). m.0) me) (ap (λ (m : Seated). m.1) me) (right_sound _ i.1) (of.0 ∙ i.2)
    (of.1 ∙ i.3) c.split_seat.ensures.3
