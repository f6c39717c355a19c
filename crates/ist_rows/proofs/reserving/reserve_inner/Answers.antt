use Rattle.std.proofs.Common.{IfOk, sym, ap, subst, ◌∙◌}
use Rattle.ist_rows.specs.RowTerms.{IsNext, HasTaken}
use Rattle.std.specs.Prelude.{[], ◌∷◌}
use Rattle.ist_rows.proofs.BuildingLemmas.{may_take_inner}
use Rattle.ist_rows.proofs.BuildingCallLemmas.{caller_after, taken_after, refused_after}
use Rattle.ist_rows.proofs.reserving.reserve_inner.Goals as goal

-- what the caller holds is fair with the row
pub take-requires-clause-fair : goal.take-requires-clause-fair
take-requires-clause-fair c =
    may_take_inner c.args.who.now c.inner_words.result c.know.ensures.sound c.requires.caller.0
    (subst (IsNext c.args.who.now) (sym c.inner_words.ensures.value) c.requires.next)

-- the caller is still a caller
pub returns-clause-caller : goal.returns-clause-caller
returns-clause-caller c =
    caller_after c.args.who.now c.take.new.token _ c.inner_words.result c.take.result
    c.requires.caller.0
    (subst (IsNext c.args.who.now) (sym c.inner_words.ensures.value) c.requires.next)
    c.take.ensures.reserved c.take.ensures.full

-- the caller has taken the row
pub returns-clause-taken : goal.returns-clause-taken
returns-clause-taken c =
    subst (λ size. IfOk c.take.result (λ base. HasTaken c.args.who.now (size ∷ [])
    (record c.args.who.now { token = c.take.new.token }))) c.inner_words.ensures.value
    (taken_after c.args.who.now c.take.new.token c.inner_words.result c.take.result
    c.requires.caller.0 c.take.ensures.reserved)

-- if it was refused, its build was refused
pub returns-clause-refused : goal.returns-clause-refused
returns-clause-refused c =
    refused_after c.args.who.now c.take.new.token _ c.inner_words.result c.take.result
    c.requires.caller.0 (sym (ap (λ t. t.words) c.requires.caller.1) ∙ sym c.know.ensures.words)
    (subst (IsNext c.args.who.now) (sym c.inner_words.ensures.value) c.requires.next)
    c.take.ensures.full
