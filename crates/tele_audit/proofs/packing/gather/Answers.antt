use Rattle.std.proofs.Common.{arith}
use Rattle.tele_audit.proofs.PackLemmas.{none_gathered, line_gathered, way_bad}
use Rattle.tele_audit.proofs.packing.gather.Goals as goal

-- all is unread
pub loop-line-init : goal.loop-line-init
loop-line-init g c = let new = c.new-lines.ensures in record {
  gathered = none_gathered _ _ _ _ _ new.fresh new.unended new.place c.new-plain.ensures;
  end = λ told. record { told = told; none = λ at_end. absurd (cc (at_end, new.unended)) };
  going = new.going;
  counted = omega arith;
}

-- a line was taken
pub loop-line-preserved : goal.loop-line-preserved
loop-line-preserved g c = let next = c.in-Ok-Some.ensures in let before = c.loop-line.invariant in
    let took = c.in_default.ensures in record {
      gathered = line_gathered _ _ _ _ _ _ _ _ _ _ _ before.gathered
          (rw c.in-Ok-Some.field-0-is at next.line) (rw c.in-Ok-Some.field-0-is at next.number)
          next.allowed next.limit took.taken took.few;
      end = λ told. next.end (before.end told);
      going = next.going;
      counted = omega (arith, before.counted, next.counted);
    }

-- a line is bad
pub returns-in-Err-Bad-clause-bad : goal.returns-in-Err-Bad-clause-bad
returns-in-Err-Bad-clause-bad g c line cause is = let before = c.loop-line.invariant in
    way_bad _ _ _ _ line cause before.gathered.way
    (c.in-Err-Bad.ensures.bad line cause (cc (c.in-Err-Bad.field-0-is, is)) before.going)
