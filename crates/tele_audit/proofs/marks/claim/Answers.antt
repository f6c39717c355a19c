use Rattle.std.proofs.Common.{◌∙◌, sym, inl, inr, ⊎_elim, false, arith}
use Rattle.std.proofs.lemmas.List.{get_or_default}
use Rattle.tele_audit.proofs.MarkLemmas.{taken, claimed}
use Rattle.tele_audit.proofs.marks.claim.Goals as goal

pub returns-then-index-clause-refused : goal.returns-then-index-clause-refused
returns-then-index-clause-refused c = λ no seen h. let place = c.loop-place.place in
    let e = sym (get_or_default c.args.marks.now.items place c.index.result.now false
    (omega arith)) ∙ sym c.index.ensures ∙ c.if-index.true in
    taken c.args.base c.args.size c.requires.some seen place c.loop-place.auto.place
    c.loop-place-test.true ((h.each place (omega arith)).0 e)

pub returns-clause-claimed : goal.returns-clause-claimed
returns-clause-claimed c = λ yes seen h. let end = c.loop-place-2.auto.place-end in
    claimed c.args.base c.args.size c.requires.some c.args.marks.now.items
    c.loop-place-2.marks.items c.requires.within c.loop-place-2.invariant.same
    (λ k a b. c.loop-place.invariant k a (omega arith))
    (λ k a b. c.loop-place-2.invariant.inside k a (omega arith))
    (λ k away. c.loop-place-2.invariant.outside k (⊎_elim (λ l. inl l) (λ l. inr (omega arith))
    away))
    seen h
