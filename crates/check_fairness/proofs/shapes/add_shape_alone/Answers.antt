use Rattle.std.proofs.Common.{◌∙◌, map, sym}
use Rattle.std.proofs.lemmas.Result.{on_ok_weaker}
use Rattle.ist_core.specs.WordTerms.{shape}
use Rattle.check_fairness.proofs.BuildLemmas.{list_known, shapes_more}
use Rattle.check_fairness.proofs.TargetLemmas.{held_after}
use Rattle.check_fairness.proofs.shapes.add_shape_alone.Goals as goal

pub returns-then-contains : goal.returns-then-contains
returns-then-contains c = record {
  added = λ has. (
    list_known (map (λ v. v.items) c.args.lists.now.items) (shape c.args.n)
        (has c.args.n (sym c.contains.ensures ∙ c.if-contains.true)),
    has,
  );
}

pub returns : goal.returns
returns c = record {
  added = on_ok_weaker c.make_shape.result
      (λ adds has. (
        adds,
        shapes_more c.args.shapes.now c.insert.new.self (map (λ v. v.items) c.args.lists.now.items)
            (map (λ v. v.items) c.make_shape.new.lists.items) c.args.n
            (λ q. held_after c.args.shapes.now c.insert.new.self c.args.n q
            (c.in_ok-insert.ensures.updates.0 q)) adds has,
      ))
      c.make_shape.ensures.added;
}
