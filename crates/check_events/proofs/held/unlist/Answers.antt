use Rattle.std.proofs.Common.{◌∙◌, ◌∷◌, [], ◌==◌, not, ap, rules}
use Rattle.std.specs.List.{list_any}
use Rattle.std.specs.Option.{option_map, unwrap_or}
use Rattle.std.proofs.lemmas.Fn.{filter_same}
use Rattle.ist_core.specs.LogTerms.{without}
use Rattle.check_events.proofs.held.unlist.Goals as goal

pub returns-in-Some-clause-here : goal.returns-in-Some-clause-here
returns-in-Some-clause-here c = let b = c.args.base in let next = c.retain.new.self in
    let kept = filter_same _ (λ h. not (list_any (λ base. base == h.base) (b ∷ []))) _
    (λ x y f' k. search rules) c.in-Some.rows.now.items next.items c.retain.ensures.filtered in
    let written = (c.get_mut.follows.holds next).3 (search rules) in
    ap (λ o. unwrap_or (option_map (λ v. v.items) o) []) written.1 ∙ kept
    ∙ ap (λ o. without (b ∷ []) (unwrap_or (option_map (λ v. v.items) o) [])) c.in-Some.ensures.value
