use Rattle.std.proofs.Common.{◌≡◌, ◌∙◌, ap, sym, subst, Some}
use Rattle.tele_audit.specs.Flaws.{head_flaw, IsFirstFlaw}
use Rattle.tele_audit.specs.Taking.{TakesBytes}
use Rattle.tele_audit.proofs.FrontLemmas.{head_flaw_of_all, from_taken}
use Rattle.tele_audit.proofs.audits.audit.Goals as goal

-- the flaw of the head of what was taken
pub returns-in-Some-clause-flaw : goal.returns-in-Some-clause-flaw
returns-in-Some-clause-flaw g c flaw e = let start = g.S.Source.left c.args.source.now in
    let now = g.S.Source.left c.take_bytes.new.source in let taken = c.take_bytes.new.taken.items in
    let same : c.in-Some.flaw ≡ flaw = cc in
    let named : head_flaw taken ≡ Some flaw =
    ap head_flaw (sym c.as_slice.ensures.value) ∙ sym c.head_flaw.ensures.value ∙ c.in-Some.is
    ∙ ap Some same in
    head_flaw_of_all start now taken flaw
    (subst (λ xs. TakesBytes start now xs taken) c.new-bytes.ensures.items c.in_ok-take_bytes.ensures.takes)
    c.in_ok-take_bytes.ensures.enough named

-- a flaw of what follows
pub returns-in-None-clause-flaw : goal.returns-in-None-clause-flaw
returns-in-None-clause-flaw g c flaw e = let start = g.S.Source.left c.args.source.now in
    let now = g.S.Source.left c.take_bytes.new.source in let taken = c.take_bytes.new.taken.items in
    from_taken (λ bytes. IsFirstFlaw bytes flaw) start now taken
    (subst (λ xs. TakesBytes start now xs taken) c.new-bytes.ensures.items c.in_ok-take_bytes.ensures.takes)
    (c.audit_rest.ensures.flaw flaw e)
