use Rattle.std.proofs.Common.{◌≡◌, ◌∙◌, ◌+◌, ◌-◌, ◌∷◌, ◌++◌, [], List, ℕ, map, ap, arith}
use Rattle.std.proofs.lemmas.Result.{IfOk-weaker}
use Rattle.ist_core.specs.LogTerms.{sizes_held}
use Rattle.check_events.proofs.ReserveLemmas.{reserves}
use Rattle.check_events.proofs.entering.can_reserve.Goals as goal

pub returns : goal.returns
returns c = record {
  exact = IfOk-weaker c.is_fair_for.result _ _
      (λ b f t h k. let words = h.words in let next = h.next in let callers = h.callers in
      let room : t.words ≡ t.next + (c.args.replica.now.words - c.args.replica.now.next) = omega
      arith in
      let held = h.held.callers c.args.caller in let xs = c.as_slice.result.now in
      let sizes : xs ≡ sizes_held t c.args.caller ++ c.args.size ∷ [] =
      c.as_slice.ensures.value ∙ c.in_ok-push.ensures.items
      ∙ ap (λ (xs : List ℕ). xs ++ c.args.size ∷ []) (c.in_ok-sizes.ensures.value
      ∙ ap (map (λ x. x.size)) held) in
      reserves t c.args.caller c.args.base c.args.size xs b (omega arith) (omega arith)
      (omega arith) sizes (f t k room))
      c.is_fair_for.ensures.exact;
}
