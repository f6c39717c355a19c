use Rattle.std.proofs.Common.{◌∙◌, ◌++◌, map, ap}
use Rattle.std.proofs.lemmas.Result.{on_ok_weaker}
use Rattle.ist_core.specs.WordTerms.{shape}
use Rattle.check_fairness.proofs.BuildLemmas.{adds_same}
use Rattle.check_fairness.proofs.shapes.make_shape.Goals as goal

pub returns : goal.returns
returns c = record {
  added = on_ok_weaker c.add_list.result
      (λ adds. adds_same (map (λ v. v.items) c.args.lists.now.items)
      (map (λ v. v.items) c.add_list.new.lists.items) c.add_shape.new.out.items _
      (c.in_ok-add_shape.ensures.added ∙ ap (λ xs. xs ++ shape c.args.n)
      c.new-sizes.ensures.items) adds)
      c.add_list.ensures.added;
}
