-- Each lane is what its run left of it.
use Rattle.std.proofs.Common.{◌≡◌, ◌∙◌, rules, sym, ap}
use Rattle.ist_core.proofs.AllWordLemmas.{map_same}
use Rattle.tele_lanes.proofs.lanes.run_lanes.Goals as goal

-- what the lanes were given they keep
pub returns-clause-numbers : goal.returns-clause-numbers
returns-clause-numbers g c = map_same (λ l. l.number) _ _ c.for_each_mut.auto.s (λ k d h.
    let ran = (c.for_each_mut.ensures k d h).1 in
    let kept : ran.after_call.now.number ≡ ran.argument.now.number = search rules in
    ap (λ l. l.number) (sym ran.left) ∙ kept ∙ ap (λ l. l.number) ran.argument_is)

pub returns-clause-tasks : goal.returns-clause-tasks
returns-clause-tasks g c = map_same (λ l. l.tasks) _ _ c.for_each_mut.auto.s (λ k d h.
    let ran = (c.for_each_mut.ensures k d h).1 in
    let kept : ran.after_call.now.tasks ≡ ran.argument.now.tasks = search rules in
    ap (λ l. l.tasks) (sym ran.left) ∙ kept ∙ ap (λ l. l.tasks) ran.argument_is)

pub returns-clause-ties : goal.returns-clause-ties
returns-clause-ties g c = map_same (λ l. g.P.Port.tie l.port) _ _ c.for_each_mut.auto.s (λ k d h.
    let ran = (c.for_each_mut.ensures k d h).1 in
    let kept : g.P.Port.tie ran.after_call.now.port ≡ g.P.Port.tie ran.argument.now.port = search rules in
    ap (λ l. g.P.Port.tie l.port) (sym ran.left) ∙ kept ∙ ap (λ l. g.P.Port.tie l.port) ran.argument_is)
