use Rattle.std.proofs.Common.{◌↔◌, IsTrue, sym, subst}
use Rattle.check_fairness.proofs.AnswerLemmas.{iff_trans, never}
use Rattle.check_builds.specs.Publishing.{IsPartOf}
use Rattle.check_builds.proofs.DrawLemmas.{no_part_found, part_found, part_over}
use Rattle.check_builds.proofs.building.has_part.Goals as goal

pub returns-in-Some : goal.returns-in-Some
returns-in-Some c = record {
  exact = λ t h kept. let leaves = c.in-Some.leaves.now in
      iff_trans (subst (λ ls. IsTrue c.is_part.result ↔ IsPartOf c.args.word c.args.i ls
      c.args.above c.args.rows.now) c.as_slice.ensures.value c.is_part.ensures.exact)
      (part_over t c.args.word c.args.i c.args.target c.args.above c.args.rows.now leaves.items
      (kept c.args.target leaves (sym c.in-Some.ensures.value)).reached);
}

pub returns-then-not-branch : goal.returns-then-not-branch
returns-then-not-branch c = record {
  exact = λ t h kept.
      never (no_part_found t c.args.word c.args.i c.args.target c.args.above c.args.rows.now
      c.new-leaves.result.items c.add_leaves.new.out.items _ c.if-not-branch.true
      (c.in_ok-add_leaves-in-None.ensures.exact t h));
}

pub returns-else-not-branch : goal.returns-else-not-branch
returns-else-not-branch c = record {
  exact = λ t h kept.
      iff_trans (subst (λ ls. IsTrue c.is_part-in-None.result ↔ IsPartOf c.args.word c.args.i ls
      c.args.above c.args.rows.now) c.as_slice-in-None.ensures.value
      c.is_part-in-None.ensures.exact)
      (part_found t c.args.word c.args.i c.args.target c.args.above c.args.rows.now
      c.new-leaves.result.items c.add_leaves.new.out.items _ c.if-not-branch.false
      c.new-leaves.ensures.items (c.in_ok-add_leaves-in-None.ensures.exact t h));
}
