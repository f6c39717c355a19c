use Rattle.std.proofs.Common.{◌≡◌, MatchOption, Some, None, subst}
use Rattle.check_builds.proofs.PartCutLemmas.{nth_more}
use Rattle.check_builds.proofs.ideals.+nth_part.Goals as goal

pub returns : goal.returns
returns t c = record {
  exact = subst (λ o. MatchOption c.nth_part.result (o ≡ None) (λ part. o ≡ Some part.now))
      (nth_more c.args.n c.args.j c.args.left c.part_end-end.result c.args.i c.args.leaves.now
      c.if-left-eq0.false c.part_end-end.ensures.value c.if-i-eq0.false)
      c.nth_part.ensures.exact;
}
