use Rattle.std.proofs.Common.{◌≡◌, ◌↔◌, ◌∙◌, ◌++◌, ◌==◌, vec_len, map, length, [], true, ap, subst, arith, append-nil}
use Rattle.ist_core.specs.LogTerms.{Among}
use Rattle.check_fairness.specs.Searching.{Goes, all_spare}
use Rattle.check_fairness.specs.Readings.{SomeGoes}
use Rattle.check_fairness.proofs.AnswerLemmas.{iff_trans, end_read}
use Rattle.check_fairness.proofs.RoomLemmas.{fair_is}
use Rattle.check_fairness.proofs.fairness.is_fair.Goals as goal

pub returns : goal.returns
returns c = let lists = map (λ v. v.items) c.args.lists.now in
    let next = c.in_ok-readings.readings in let sizes = c.args.sizes.now in
    let long : vec_len next ≡ length next.items = omega (arith, next.ok.0) in
    let first = subst (λ rs. SomeGoes lists c.args.room next.items []
    ↔ SomeGoes lists c.args.room rs (sizes ++ [])) c.as_slice.ensures.value
    (c.in_ok-readings.ensures.exact []) in
    let read = iff_trans first (c.in_ok-first.ensures.first c.args.room (sizes ++ [])) in record {
      exact = λ t b w.
          iff_trans (end_read lists c.args.room next.items [] c.is_empty.result (omega arith)
          (c.is_empty.ensures ∙ ap (λ n. n == 0) long))
          (iff_trans (subst (λ xs. SomeGoes lists c.args.room next.items []
          ↔ Goes (λ l. Among l lists) c.args.room all_spare [] true xs) (append-nil sizes) read)
          (fair_is (λ l. Among l lists) c.args.room t w b sizes));
    }
