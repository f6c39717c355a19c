-- A pass has learnt what the note holds; else both are as they were.
use Rattle.std.proofs.Common.{ap, sym, rules, ◌∙◌}
use Rattle.ist_c.proofs.KindLemmas.{no_some, number}
use Rattle.ist_c.proofs.PassLemmas.{met_one, met_by_none, met_nothing, met_other, met_not}
use Rattle.ist_c.proofs.note_calls.meet_in.Goals as goal

pub returns-then-deref : goal.returns-then-deref
returns-then-deref c = record {
  meets = met_other _ _ _ _ c.args.note.now c.of.result c.in-Pass.is c.in-Note.is
      (λ same. c.if-deref.true (ap number c.deref.ensures ∙ same ∙ sym (ap number c.deref-in-Note.ensures)))
      (search rules) (c.replace.ensures.value ∙ c.deref_mut.ensures.value ∙ c.in-Some.ensures.value)
      c.of.ensures.full (c.of.ensures.value ∙ sym c.in-Note.is);
}

pub returns-else-deref : goal.returns-else-deref
returns-else-deref c =
    let was = c.replace.ensures.value ∙ c.deref_mut.ensures.value ∙ c.in-Some.ensures.value in
    let its = c.requires.numbered _ _ c.in-Pass.is (sym was ∙ c.in-Note.is)
    (sym (ap number c.deref.ensures) ∙ c.if-deref.false ∙ ap number c.deref-in-Note.ensures) in
    record {
      meets = met_one _ _ c.learn_from.new.pass _ c.args.note.now c.open.new.self c.in-Pass.is (search rules)
          (sym was ∙ c.in-Note.is) (search rules) c.open.ensures.empty;
    }

pub returns-in_default : goal.returns-in_default
returns-in_default c = record { meets = met_by_none c.args.held.now c.args.note.now c.in_default.not-Pass }

pub returns-in_default-open : goal.returns-in_default-open
returns-in_default-open c = record {
  meets = met_nothing _ _ c.args.note.now c.open.new.self c.in-Pass.is
      (λ full. no_some _ c.in_default-open.not-Some (c.open.ensures.some.1 full)) c.open.ensures.empty;
}

pub returns-in_default-replace : goal.returns-in_default-replace
returns-in_default-replace c = record {
  meets = met_not _ c.replace.result _ c.args.note.now c.of-in_default-replace.result c.in-Pass.is
      (λ n is. absurd (c.in_default-replace.not-Note n is)) (search rules)
      (c.replace.ensures.value ∙ c.deref_mut.ensures.value ∙ c.in-Some.ensures.value)
      c.of-in_default-replace.ensures.full c.of-in_default-replace.ensures.value;
}
