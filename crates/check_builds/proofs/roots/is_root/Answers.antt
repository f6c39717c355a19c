use Rattle.check_fairness.proofs.AnswerLemmas.{iff_trans}
use Rattle.check_builds.proofs.RootLemmas.{whole_is, top_is}
use Rattle.check_builds.proofs.roots.is_root.Goals as goal

pub returns-then-k-lt-SHARE_FROM : goal.returns-then-k-lt-SHARE_FROM
returns-then-k-lt-SHARE_FROM c = record {
  exact = iff_trans c.is_ideal.ensures.exact (whole_is c.args.word c.args.k
      c.args.leaves.now c.args.target c.args.rows.now c.if-k-lt-SHARE_FROM.true);
}

pub returns : goal.returns
returns c = record {
  exact = iff_trans c.is_top_alone.ensures.exact (top_is c.args.word c.args.k
      c.args.leaves.now c.args.target c.args.rows.now c.if-k-lt-SHARE_FROM.false);
}
