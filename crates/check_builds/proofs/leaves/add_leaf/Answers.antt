use Rattle.std.proofs.Common.{◌∷◌, [], ◌++◌, ◌∙◌, sym, ap}
use Rattle.check_builds.proofs.GatherLemmas.{leaf_stands, gathers_leaf}
use Rattle.check_builds.proofs.leaves.add_leaf.Goals as goal

pub returns-in_ok-push-in-Some : goal.returns-in_ok-push-in-Some
returns-in_ok-push-in-Some c = record {
  exact = λ t h. gathers_leaf t.pieces c.args.base c.in-Some.row.now c.args.out.now.items
      c.push.new.self.items
      (leaf_stands c.args.replica.now t c.args.base h c.in-Some.row.now
      (sym c.in-Some.ensures.value))
      (c.in_ok-push-in-Some.ensures.items ∙ ap (λ x. c.args.out.now.items ++ x ∷ [])
      c.new.ensures.value);
}
