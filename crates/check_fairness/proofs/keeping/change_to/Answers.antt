use Rattle.std.proofs.Common.{◌≡◌, ◌∙◌, ◌++◌, ◌-◌, map, take, drop, length, sym, ap}
use Rattle.std.proofs.lemmas.List.{take-append-drop, take_rest}
use Rattle.check_fairness.specs.Keeping.{left_at}
use Rattle.check_fairness.proofs.KeepingLemmas.{at, kept_enough}
use Rattle.check_fairness.proofs.keeping.change_to.Goals as goal

pub returns-else-is_empty-clause-sizes : goal.returns-else-is_empty-clause-sizes
returns-else-is_empty-clause-sizes c right = let lists = map (λ v. v.items) c.args.lists.now in
    let sizes = c.args.sizes.now in let n = c.common_len-n.result in
    let rest = take (length sizes - n) (drop n sizes) in let new = c.go_on.new.kept in
    let same : take n c.args.kept.now.sizes.items ≡ take n sizes =
    ap (take n) (sym c.as_slice.ensures.value) ∙ c.common_len-n.ensures.same in
    let sizes_are : new.sizes.items ≡ sizes =
    c.in_ok-go_on.ensures.sizes ∙ ap (λ xs. xs ++ rest) (c.cut.ensures.sizes ∙ same)
    ∙ ap (λ xs. take n sizes ++ xs) (take_rest sizes n) ∙ take-append-drop n sizes in
    let left : c.left_at.result.now ≡ left_at new (length sizes) =
    c.left_at.ensures.value ∙ ap (λ xs. at xs (length sizes)) c.as_slice-2.ensures.value in
    kept_enough lists sizes new c.left_at.result.now c.is_empty.result sizes_are left
    c.is_empty.ensures c.if-is_empty.false
    (c.in_ok-go_on.ensures.kept (c.cut.ensures.kept lists right))
