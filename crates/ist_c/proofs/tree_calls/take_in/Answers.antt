-- An owner took the pass back; else both are as they were.
use Rattle.std.proofs.Common.{ap, sym, rules, ◌∙◌}
use Rattle.ist_c.proofs.KindLemmas.{no_some, number}
use Rattle.ist_c.proofs.PassLemmas.{took_one, took_by_none, took_nothing, took_other, took_not}
use Rattle.ist_c.proofs.tree_calls.take_in.Goals as goal

pub returns-then-deref : goal.returns-then-deref
returns-then-deref c = record {
  takes = took_other _ _ _ _ c.args.pass.now c.of.result c.in-Owner.is c.in-Pass.is
      (λ same. c.if-deref.true (ap number c.deref.ensures ∙ same ∙ sym (ap number c.deref-in-Pass.ensures)))
      (search rules) (c.replace.ensures.value ∙ c.deref_mut.ensures.value ∙ c.in-Some.ensures.value)
      c.of.ensures.full (c.of.ensures.value ∙ sym c.in-Pass.is);
}

pub returns-else-deref : goal.returns-else-deref
returns-else-deref c =
    let was = c.replace.ensures.value ∙ c.deref_mut.ensures.value ∙ c.in-Some.ensures.value in
    let its = c.requires.numbered _ _ c.in-Owner.is (sym was ∙ c.in-Pass.is)
    (sym (ap number c.deref.ensures) ∙ c.if-deref.false ∙ ap number c.deref-in-Pass.ensures) in
    record {
      takes = took_one _ _ c.take_from.new.owner _ c.args.pass.now c.open.new.self c.in-Owner.is
          (search rules) (sym was ∙ c.in-Pass.is) (search rules) c.open.ensures.empty;
    }

pub returns-in_default : goal.returns-in_default
returns-in_default c = record { takes = took_by_none c.args.held.now c.args.pass.now c.in_default.not-Owner }

pub returns-in_default-open : goal.returns-in_default-open
returns-in_default-open c = record {
  takes = took_nothing _ _ c.args.pass.now c.open.new.self c.in-Owner.is
      (λ full. no_some _ c.in_default-open.not-Some (c.open.ensures.some.1 full)) c.open.ensures.empty;
}

pub returns-in_default-replace : goal.returns-in_default-replace
returns-in_default-replace c = record {
  takes = took_not _ c.replace.result _ c.args.pass.now c.of-in_default-replace.result c.in-Owner.is
      (λ p is. absurd (c.in_default-replace.not-Pass p is)) (search rules)
      (c.replace.ensures.value ∙ c.deref_mut.ensures.value ∙ c.in-Some.ensures.value)
      c.of-in_default-replace.ensures.full c.of-in_default-replace.ensures.value;
}
