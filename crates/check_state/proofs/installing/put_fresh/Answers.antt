use Rattle.std.proofs.Common.{ap}
use Rattle.std.proofs.lemmas.Result.{on_ok_weaker}
use Rattle.ist_core.specs.WordTerms.{leaf_of, inner_of, with_row}
use Rattle.check_state.proofs.PublishLemmas.{mirrors_row, one_row, two_rows, one_fresh, two_fresh}
use Rattle.check_state.proofs.installing.put_fresh.Goals as goal

pub returns-in-len1 : goal.returns-in-len1
returns-in-len1 c =
    let is = one_row c.args.fresh.now c.row-item.result c.in-len1.len_at_least c.in-len1.len_below
    c.row-item.is in
    record {
      exact = on_ok_weaker c.put_one.result (λ f t change kind h. one_fresh
          c.put_one.new.replica t change c.args.fresh.now c.row-item.result c.args.kind is kind
          (f t h)) c.put_one.ensures.exact;
    }

pub returns-in_ok-put_as_leaf-in-len2 : goal.returns-in_ok-put_as_leaf-in-len2
returns-in_ok-put_as_leaf-in-len2 c =
    let is = two_rows c.args.fresh.now c.pair-item.result c.leaf-item.result c.in-len2.len_at_least
    c.in-len2.len_below c.pair-item.is c.leaf-item.is in
    record {
      exact = on_ok_weaker c.put_as_inner.result
          (λ f t change kind h.
          let leafy = record t {
            pieces = with_row t.pieces c.leaf-item.result.base (leaf_of c.leaf-item.result.words);
          } in
          let first = mirrors_row c.put_as_leaf.new.replica t c.leaf-item.result.base _ _
          (ap leaf_of c.as_slice.ensures.value) (c.in_ok-put_as_leaf-in-len2.ensures.exact t h)
          in
          two_fresh c.put_as_inner.new.replica t change c.args.fresh.now c.pair-item.result
          c.leaf-item.result is
          (mirrors_row c.put_as_inner.new.replica leafy c.pair-item.result.base _ _
          (ap inner_of c.as_slice-in-len2.ensures.value) (f leafy first)))
          c.put_as_inner.ensures.exact;
    }
