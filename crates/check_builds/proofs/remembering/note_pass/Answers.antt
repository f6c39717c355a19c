use Rattle.std.proofs.Common.{Some, subst}
use Rattle.std.specs.Ordering.{nat_cmp}
use Rattle.std.specs.BTreeMap as tree
use Rattle.check_builds.proofs.TableLemmas.{pass_known}
use Rattle.check_builds.proofs.remembering.note_pass.Goals as goal

pub returns : goal.returns
returns c = record {
  exact = λ log caller one known.
      let u = subst (λ k. tree.Updates nat_cmp c.args.passed.now c.insert.new.self k
      (Some c.args.word)) c.pair_key.ensures.value c.in_ok-insert.ensures.updates in
      pass_known c.args.passed.now c.insert.new.self log caller c.args.node c.args.index
      c.args.word known c.ranges.index.fits one u;
}
