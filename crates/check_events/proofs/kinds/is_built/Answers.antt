use Rattle.std.proofs.Common.{◌↔◌, IsTrue, subst, sym, refl, arith}
use Rattle.ist_core.specs.LogTerms.{Among}
use Rattle.ist_core.specs.WordTerms.{unset_word}
use Rattle.check_fairness.proofs.AnswerLemmas.{iff_trans, not_so}
use Rattle.check_events.proofs.DecisionLemmas.{inner_stands, no_inner}
use Rattle.check_events.proofs.AmongLemmas.{any_among}
use Rattle.check_events.proofs.CountLemmas.{built_is, built_alone}
use Rattle.check_events.proofs.kinds.is_built.Goals as goal

pub returns-in-None-get : goal.returns-in-None-get
returns-in-None-get c = record {
  exact = λ t h. let named = c.in-Some.ensures.exact.0 in
      let none = no_inner c.args.replica.now t c.in-Some.base h (sym c.in-None-get.ensures.value) in
      ((λ _. built_alone t c.args.root c.in-Some.base named none (omega arith)), (λ _. refl));
}

pub returns-in-Some-get : goal.returns-in-Some-get
returns-in-Some-get c = record {
  exact = λ t h. let row = c.in-Some-get.row.now in let named = c.in-Some.ensures.exact.0 in
      let stands = inner_stands c.args.replica.now t c.in-Some.base h row
      (sym c.in-Some-get.ensures.value) in
      let found : IsTrue c.contains.result ↔ Among unset_word c.as_slice.result.now = subst
      (λ b. IsTrue b ↔ Among unset_word c.as_slice.result.now)
      (sym c.contains.ensures.value) (any_among unset_word c.as_slice.result.now) in
      let among = subst (λ xs. IsTrue c.contains.result ↔ Among unset_word xs)
      c.as_slice.ensures.value found in
      iff_trans (not_so c.contains.result _ among) (built_is t c.args.root c.in-Some.base named
      row stands (omega arith));
}
