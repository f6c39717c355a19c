use Rattle.std.proofs.Common.{◌∙◌, ap}
use Rattle.std.proofs.lemmas.Result.{on_ok_weaker}
use Rattle.ist_core.specs.WordTerms.{leaf_of, rebuild_of}
use Rattle.check_state.proofs.PublishLemmas.{mirrors_row, start_chosen, other_chosen}
use Rattle.check_state.proofs.installing.put_one.Goals as goal

pub returns-then-kind-eq-START_KIND : goal.returns-then-kind-eq-START_KIND
returns-then-kind-eq-START_KIND c = let ws = c.args.row.now.words in
    let is = ap rebuild_of c.as_slice.ensures.value ∙ start_chosen c.args.kind (rebuild_of ws)
    (leaf_of ws) c.if-kind-eq-START_KIND.true in
    record {
      exact = on_ok_weaker c.put_as_rebuild.result
          (λ f t h. mirrors_row c.put_as_rebuild.new.replica t c.args.row.now.base _ _ is (f t h))
          c.put_as_rebuild.ensures.exact;
    }

pub returns-else-kind-eq-START_KIND : goal.returns-else-kind-eq-START_KIND
returns-else-kind-eq-START_KIND c = let ws = c.args.row.now.words in
    let is = ap leaf_of c.as_slice-else-kind-eq-START_KIND.ensures.value ∙ other_chosen c.args.kind
    (rebuild_of ws) (leaf_of ws) c.if-kind-eq-START_KIND.false in
    record {
      exact = on_ok_weaker c.put_as_leaf.result (λ f t h. mirrors_row c.put_as_leaf.new.replica
          t c.args.row.now.base _ _ is (f t h)) c.put_as_leaf.ensures.exact;
    }
