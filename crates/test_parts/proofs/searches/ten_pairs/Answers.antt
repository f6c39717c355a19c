use Rattle.std.proofs.Common.{zero, suc, map, ap, arith}
use Rattle.std.proofs.lemmas.Result.{IfOk-weaker}
use Rattle.std.specs.List.Sorted.{IsStrictlyIncreasing}
use Rattle.ist_core.specs.ExampleTables.{ten_pairs}
use Rattle.ist_core.specs.LogTerms.{CanOpen}
use Rattle.ist_core.proofs.AllWordLemmas.{ideal_words_nine}
use Rattle.ist_rule.specs.declared.view.View.{View}
use Rattle.test_parts.proofs.searches.ten_pairs.Goals as goal

rising : IsStrictlyIncreasing (map (λ pair. pair.key) ten_pairs)
rising zero h = omega arith
rising (suc zero) h = omega arith
rising (suc (suc zero)) h = omega arith
rising (suc (suc (suc zero))) h = omega arith
rising (suc (suc (suc (suc zero)))) h = omega arith
rising (suc (suc (suc (suc (suc zero))))) h = omega arith
rising (suc (suc (suc (suc (suc (suc zero)))))) h = omega arith
rising (suc (suc (suc (suc (suc (suc (suc zero))))))) h = omega arith
rising (suc (suc (suc (suc (suc (suc (suc (suc zero)))))))) h = omega arith
rising (suc (suc (suc (suc (suc (suc (suc (suc (suc k))))))))) h = absurd (omega arith)

-- the table may be opened
opens : CanOpen ten_pairs 100
opens = record { rising = λ k h. rising k h; room = omega (arith, ideal_words_nine 10); within = omega arith }

pub lay_image-requires : goal.lay_image-requires
lay_image-requires c = record { opens = rw (c.as_slice.ensures.value, c.in_ok-pairs.ensures.items) opens }

pub open_table-requires-clause-opens : goal.open_table-requires-clause-opens
open_table-requires-clause-opens c = rw (c.in_ok-image.ensures.size, c.in_ok-pairs.ensures.items) opens

-- the token is of the table
pub returns : goal.returns
returns c = record {
  same_table = IfOk-weaker c.open_table.result _ _ (λ t h. ap (λ (v : View). v.table) h)
      c.open_table.ensures.token;
}
