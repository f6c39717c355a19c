use Rattle.std.proofs.Common.{◌∙◌, ◌+◌, ◌*◌, ◌++◌, ◌∷◌, [], map, ap}
use Rattle.std.proofs.lemmas.Result.{on_ok_weaker}
use Rattle.check_fairness.proofs.BuildLemmas.{adds_same}
use Rattle.check_fairness.proofs.shapes.add_top.Goals as goal

pub returns : goal.returns
returns c = record {
  added = on_ok_weaker c.add_list.result
      (λ adds. adds_same (map (λ v. v.items) c.args.lists.now.items)
      (map (λ v. v.items) c.add_list.new.lists.items) c.push.new.self.items _
      (c.in_ok-push.ensures.items ∙ ap (λ xs. xs ++ (2 * c.args.children + 3) ∷ [])
      c.new-top.ensures.items) adds)
      c.add_list.ensures.added;
}
