use Rattle.std.proofs.Common.{◌∙◌, ◌∷◌, [], map, ap, subst}
use Rattle.std.proofs.lemmas.List.{map-append}
use Rattle.ist_core.specs.LogTerms.{Among}
use Rattle.check_fairness.proofs.BuildLemmas.{list_known, list_pushed}
use Rattle.check_fairness.proofs.shapes.add_list.Goals as goal

pub returns-then-is_listed : goal.returns-then-is_listed
returns-then-is_listed c = let found = c.is_listed.ensures.exact.0 c.if-is_listed.true in
    let listed = subst (λ s. Among s (map (λ v. v.items) c.args.lists.now.items))
    c.as_slice-2.ensures.value
    (subst (λ xs. Among c.as_slice-2.result.now (map (λ v. v.items) xs)) c.as_slice.ensures.value
    found) in
    record {
      added = list_known (map (λ v. v.items) c.args.lists.now.items) c.args.sizes.items listed;
    }

pub returns : goal.returns
returns c = record {
  added = list_pushed (map (λ v. v.items) c.args.lists.now.items)
      (map (λ v. v.items) c.push.new.self.items) c.args.sizes.items
      (ap (map (λ v. v.items)) c.in_ok-push.ensures.items
      ∙ map-append (λ v. v.items) c.args.lists.now.items (c.args.sizes ∷ []));
}
