-- Each hand is what its work left of it.
use Rattle.std.proofs.Common.{◌≡◌, ◌++◌, map, slice_index_or, rules, sym, ap, ◌∙◌}
use Rattle.ist_core.specs.TreeTerms.{told_by_call}
use Rattle.ist_core.proofs.AllWordLemmas.{map_same}
use Rattle.ist_map.specs.Hands.{pass_number, calls_by}
use Rattle.ist_map.proofs.HandLemmas.{have_worked}
use Rattle.ist_map.proofs.hands.work_all.Goals as goal

-- the passes keep their numbers
pub returns-clause-numbers : goal.returns-clause-numbers
returns-clause-numbers g c = map_same (λ h. pass_number h.pass) _ _ c.for_each_mut.auto.s (λ k d h.
    let ran = (c.for_each_mut.ensures k d h).1 in
    let kept : pass_number ran.after_call.now.pass ≡ pass_number ran.argument.now.pass = search rules in
    ap (λ h. pass_number h.pass) (sym ran.left) ∙ kept
    ∙ ap (λ h. pass_number h.pass) ran.argument_is)

-- each was told what its calls told it
pub returns-clause-told : goal.returns-clause-told
returns-clause-told g c = have_worked (λ h. g.W.Worker.told h.worker)
    (λ h. (calls_by h.pass).calls) _ _ c.for_each_mut.auto.s (λ k d h.
    let ran = (c.for_each_mut.ensures k d h).1 in
    let did : g.W.Worker.told ran.after_call.now.worker
    ≡ g.W.Worker.told ran.argument.now.worker
    ++ map told_by_call (calls_by ran.after_call.now.pass).calls = search rules in
    ap (λ h. g.W.Worker.told h.worker) (sym ran.left) ∙ did
    ∙ ap (λ h. g.W.Worker.told h.worker
    ++ map told_by_call (calls_by ran.after_call.now.pass).calls) ran.argument_is
    ∙ ap (λ h. g.W.Worker.told (slice_index_or c.args.hands.now k d).worker
    ++ map told_by_call (calls_by h.pass).calls) ran.left)
