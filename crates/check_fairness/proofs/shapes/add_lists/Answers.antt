use Rattle.std.proofs.Common.{◌≤◌, ◌<◌, arith}
use Rattle.std.proofs.lemmas.Result.{on_ok_weaker}
use Rattle.ist_core.specs.WordTerms.{share_from, share_from_is}
use Rattle.check_fairness.proofs.BuildLemmas.{adds_none, adds_one, adds_three, shapes_kept}
use Rattle.check_fairness.proofs.shapes.add_lists.Goals as goal

pub returns-then-k-lt2 : goal.returns-then-k-lt2
returns-then-k-lt2 c = record { added = λ has. (adds_none c.args.k c.if-k-lt2.true _, has) }

pub returns-then-k-lt-SHARE_FROM : goal.returns-then-k-lt-SHARE_FROM
returns-then-k-lt-SHARE_FROM c = let from = share_from_is in
    let few : c.args.k < share_from = omega arith in record {
      added = on_ok_weaker c.add_shape_alone.result
          (λ come has. (adds_one c.args.k (omega arith) few _ _ (come has).0, (come has).1))
          c.add_shape_alone.ensures.added;
    }

pub returns : goal.returns
returns c = let from = share_from_is in let many : share_from ≤ c.args.k = omega arith in
    let top = c.in_ok-add_top.ensures.added in record {
      added = on_ok_weaker c.add_shape_alone-3.result
          (λ come has.
          let first = c.in_ok-add_shape_alone.ensures.added (shapes_kept c.args.shapes.now _ _ _ top has) in
          let last = come first.1 in (
            adds_three c.args.k c.degree_of-children.result _ _ _ _ _ _ (omega arith) many
                c.degree_of-children.ensures.value c.part_len_of.ensures.value
                c.part_len_of-2.ensures.value top first.0 last.0,
            last.1,
          ))
          c.add_shape_alone-3.ensures.added;
    }
