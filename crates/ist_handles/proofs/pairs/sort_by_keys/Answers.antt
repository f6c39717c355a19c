-- A stable sort leaves the map that the pairs make.
use Rattle.std.proofs.Common.{rules}
use Rattle.std.proofs.lemmas.List.Sorted.{answers_always}
use Rattle.std.proofs.lemmas.Result.{on_ok_weaker}
use Rattle.ist_core.specs.declared.pairs.Pair.{Pair}
use Rattle.ist_handles.proofs.RisingLemmas.{sorted_given}
use Rattle.ist_handles.proofs.pairs.sort_by_keys.Goals as goal

pub returns : goal.returns
returns c = let keys = answers_always _ _ _ (λ f a r next called. search rules) in record {
  same = on_ok_weaker c.sort_by_key.result
      (λ sorted. sorted_given _ _ (c.sort_by_key.ensures.stable (λ (p : Pair). p.key) keys))
      c.sort_by_key.ensures.sorted;
}
