use Rattle.std.proofs.Common.{arith, false, IsTrue}
use Rattle.log_check.proofs.KeyLemmas.{not_rising, rising_more}
use Rattle.log_check.proofs.logs.do_rise.Goals as goal

clash : {A : Type 0} → IsTrue false → A
clash e = absurd (let no : ⊥ = cc in no)

pub returns-then-pairs-i : goal.returns-then-pairs-i
returns-then-pairs-i c = record {
  exact = (
    λ e. clash e,
    λ rise. absurd (not_rising c.args.pairs.now c.loop-i.i
        (omega arith) (omega arith) c.if-pairs-i.true rise),
  );
}

pub loop-i-preserved : goal.loop-i-preserved
loop-i-preserved c = rising_more c.args.pairs.now c.loop-i.i (omega arith) (omega arith)
    c.if-pairs-i.false c.loop-i.invariant
