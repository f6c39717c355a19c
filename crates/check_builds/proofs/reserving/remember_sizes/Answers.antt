use Rattle.std.proofs.Common.{◌≡◌, ◌∙◌, ◌∷◌, ◌++◌, [], ℕ, List, map, sym, ap, subst}
use Rattle.std.proofs.lemmas.Result.{on_ok_weaker}
use Rattle.ist_core.specs.LogTerms.{sizes_held}
use Rattle.check_fairness.specs.Knowing.{KeepsSizes}
use Rattle.check_builds.proofs.reserving.remember_sizes.Goals as goal

pub returns-in_ok-push-in-Reserve-clause-kept : goal.returns-in_ok-push-in-Reserve-clause-kept
returns-in_ok-push-in-Reserve-clause-kept c = on_ok_weaker c.keep_readings.result
    (λ kept t caller base size mirrors lists e. let is = sym c.in-Reserve.is ∙ e in
    let sizes : c.as_slice.result.now ≡ sizes_held t c.in-Reserve.caller ++ c.in-Reserve.size ∷ [] =
    c.as_slice.ensures.value ∙ c.in_ok-push-in-Reserve.ensures.items
    ∙ ap (λ (xs : List ℕ). xs ++ c.in-Reserve.size ∷ [])
    (c.in_ok-sizes-in-Reserve.ensures.value
    ∙ ap (map (λ x. x.size)) (mirrors.held.callers c.in-Reserve.caller)) in
    subst (λ n. KeepsSizes c.keep_readings.new.building caller (sizes_held t caller ++ n ∷ [])) (cc)
    (subst (λ by. KeepsSizes c.keep_readings.new.building by (sizes_held t by
    ++ c.in-Reserve.size ∷ [])) (cc)
    (subst (KeepsSizes c.keep_readings.new.building c.in-Reserve.caller) sizes (kept lists.kept))))
    c.keep_readings.ensures.kept
