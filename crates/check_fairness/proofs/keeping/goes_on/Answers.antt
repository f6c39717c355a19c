use Rattle.std.proofs.Common.{◌∙◌, ◌==◌, ◌≡◌, ◌≤◌, map, take, length, vec_len, sym, ap, subst, arith}
use Rattle.std.proofs.lemmas.List.{take_rest}
use Rattle.check_fairness.proofs.KeepingLemmas.{first_is, at, none_goes_on, rest_goes_on}
use Rattle.check_fairness.proofs.keeping.goes_on.Goals as goal

pub returns-in-None : goal.returns-in-None
returns-in-None c = record { exact = λ known. none_goes_on _ _ c.args.caller _ (sym c.in-None.ensures.value) }

pub returns-in_ok-readings-in-Some : goal.returns-in_ok-readings-in-Some
returns-in_ok-readings-in-Some c = let all = map (λ v. v.items) c.args.building.now.lists.items in
    let kept = c.in-Some.kept.now in let sizes = c.args.sizes.now in
    let n = c.common_len-n.result in let next = c.in_ok-readings-in-Some.readings in
    let found = sym c.in-Some.ensures.value in let value = c.as_slice.ensures.value in
    let long : vec_len next ≡ length next.items = omega (arith, next.ok.0) in record {
      exact = λ known. let it = known c.args.caller kept found in
          let few = first_is c.as_slice-in-Some.result.now c.args.building.now.lists.items
          c.first_lists-lists.result.now kept.lists c.as_slice-in-Some.ensures.value it.within
          c.first_lists-lists.ensures.value in
          rest_goes_on c.args.building.now.kept all c.args.caller sizes kept
          (map (λ v. v.items) c.first_lists-lists.result.now) n c.left_at-left.result.now next.items
          c.is_empty.result found it few
          (c.left_at-left.ensures.value ∙ ap (λ xs. at xs n) c.as_slice-in-Some-2.ensures.value)
          (subst (λ xs. n ≤ length xs) value c.common_len-n.ensures.within.0)
          (ap (take n) (sym value) ∙ c.common_len-n.ensures.same)
          (c.is_empty.ensures ∙ ap (λ m. m == 0) long)
          (λ more. rw (take_rest sizes n) at (c.in_ok-readings-in-Some.ensures.exact more));
    }
