use Rattle.std.proofs.Common.{◌∙◌, subst, arith, add-one, drop-cons}
use Rattle.tele_io.specs.Bytes.{Appends, AppendsPart}
use Rattle.tele_io.proofs.OutcomeLemmas.{at_refusal}
use Rattle.tele_lines.proofs.PrintedLemmas.{one_printed, part_printed}
use Rattle.tele_lines.proofs.printing.print_pairs.Goals as goal

-- a part of one more pair
pub returns-in_err-write_whole-clause-part : goal.returns-in_err-write_whole-clause-part
returns-in_err-write_whole-clause-part g c =
    let e = c.as_slice.ensures.value ∙ c.pair_line-text.ensures.value in
    at_refusal c.from_residual.result
    (part_printed c.args.version _ _ _ c.args.pairs.now _ _ _ (drop-cons c.args.pairs.now c.loop-pair.pair-index _ c.loop-pair-test.true)
    c.loop-pair.invariant.printed (subst (AppendsPart _ _) e c.in_err-write_whole.ensures.part))

-- one more pair
pub loop-pair-preserved : goal.loop-pair-preserved
loop-pair-preserved g c = let e = c.as_slice.ensures.value ∙ c.pair_line-text.ensures.value in
    record {
      printed = rw add-one (one_printed c.args.version _ _ _ c.args.pairs.now _ _ _
          (drop-cons c.args.pairs.now c.loop-pair.pair-index _ c.loop-pair-test.true)
          c.loop-pair.invariant.printed (subst (Appends _ _) e c.in_ok-write_whole.ensures.whole));
      counted = omega (arith, c.loop-pair.invariant.counted, c.in_ok-write_whole.ensures.counted);
    }
