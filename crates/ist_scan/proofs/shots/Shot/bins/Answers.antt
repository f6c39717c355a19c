use Rattle.std.proofs.Common.{◌∙◌, subst, sym, arith}
use Rattle.std.proofs.lemmas.List.{length-set}
use Rattle.ist_core.specs.TreeTerms.{pairs_of}
use Rattle.ist_scan.specs.Shots.{ArePairsOf, map_seen}
use Rattle.ist_scan.specs.Totals.{total_of, pairs_in_bin}
use Rattle.ist_scan.proofs.ShotLemmas.{looked_not, looked_more, of_pairs}
use Rattle.ist_scan.proofs.TotalLemmas.{totals_more}
use Rattle.ist_scan.proofs.shots.Shot.bins.Goals as goal

pub loop-j-init : goal.loop-j-init
loop-j-init c = record {
  looked = looked_not c.args.pass.now;
  long = omega arith;
  bins = λ pairs h k low. absurd (omega (arith, low));
}

pub loop-j-preserved : goal.loop-j-preserved
loop-j-preserved c = let i = c.loop-j.invariant in let pass = c.args.pass.now in
    let shot = c.self.inside.frozen in record {
      looked = looked_more pass c.loop-j.pass c.bin_at.new.pass i.looked c.bin_at.ensures.looked;
      long = length-set c.loop-j.out c.loop-j.j c.bin_at.result ∙ i.long;
      bins = λ pairs has. let h = subst (λ s. ArePairsOf pass s pairs) (sym c.self.view_is) has in
          totals_more (λ k. total_of (pairs_in_bin pairs c.args.first c.args.width k)) c.loop-j.out c.loop-j.j
          c.bin_at.result (omega (arith, c.loop-j-test.true)) (c.bin_at.ensures.total pairs (i.looked.pairs shot pairs h))
          (i.bins pairs has);
    }

pub returns-clause-by_pairs : goal.returns-clause-by_pairs
returns-clause-by_pairs c = λ pairs h j low.
    c.loop-j.invariant.bins pairs h j (omega (arith, low, c.loop-j.invariant.long, c.loop-j-test.false))

pub returns-clause-bins : goal.returns-clause-bins
returns-clause-bins c = λ position o.
    returns-clause-by_pairs c (pairs_of (map_seen c.args.pass.now position))
    (of_pairs c.args.pass.now position c.args.self.now c.know.ensures.lawful o)
