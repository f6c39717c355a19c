use Rattle.std.proofs.Common.{◌↔◌, IsTrue, true, subst}
use Rattle.check_fairness.proofs.AnswerLemmas.{iff_trans, never}
use Rattle.check_builds.specs.Reading.{Gathers}
use Rattle.check_builds.specs.Built.{IsRootOf}
use Rattle.check_builds.proofs.FitLemmas.{Below, no_root, root_over}
use Rattle.check_builds.proofs.building.has_root.Goals as goal

pub returns-then-not-branch : goal.returns-then-not-branch
returns-then-not-branch c = record {
  exact = λ t h.
      never (no_root t c.args.word c.args.k c.args.target c.args.rows.now
      (subst (λ b. Gathers (Below t c.args.word c.args.k c.args.target c.args.rows.now)
      c.new-leaves.result.items b c.add_leaves.new.out.items) c.if-not-branch.true
      (c.in_ok-add_leaves.ensures.exact t h)));
}

pub returns : goal.returns
returns c = record {
  exact = λ t h. let below = Below t c.args.word c.args.k c.args.target c.args.rows.now in
      let found = subst (λ b. Gathers below c.new-leaves.result.items b
      c.add_leaves.new.out.items) c.if-not-branch.false (c.in_ok-add_leaves.ensures.exact t
      h) in
      let all = subst (λ old. Gathers below old true c.add_leaves.new.out.items)
      c.new-leaves.ensures.items found in
      iff_trans (subst (λ ls. IsTrue c.is_root.result ↔ IsRootOf c.args.word c.args.k ls
      c.args.target c.args.rows.now) c.as_slice.ensures.value c.is_root.ensures.exact)
      (root_over t c.args.word c.args.k c.args.target c.args.rows.now c.add_leaves.new.out.items
      all);
}
