use Rattle.std.proofs.Common.{◌∙◌, ◌++◌, ap, sym, append-nil, arith}
use Rattle.ist_core.proofs.AllWordLemmas.{shape_few}
use Rattle.check_fairness.proofs.BuildLemmas.{shape_step, shape_whole}
use Rattle.check_fairness.proofs.shapes.+add_shape.Goals as goal

pub returns-then-n-lt2 : goal.returns-then-n-lt2
returns-then-n-lt2 t c = record {
  added = sym (append-nil c.args.out.now.items)
      ∙ ap (λ xs. c.args.out.now.items ++ xs) (sym (shape_few c.args.n c.if-n-lt2.true));
}

pub loop-j-preserved : goal.loop-j-preserved
loop-j-preserved t c =
    shape_step c.args.n c.loop-j.j c.part_len_of.result c.push.new.self.items c.loop-j.out.items
    c.add_shape.new.out.items c.loop-j.invariant c.in_ok-add_shape.ensures.added
    c.part_len_of.ensures.value

pub returns : goal.returns
returns t c = record {
  added = shape_whole c.args.n c.degree_of-children.result c.loop-j.j c.args.out.now.items
      c.push.new.self.items c.loop-j.out.items (omega arith) c.degree_of-children.ensures.value
      (omega arith) c.in_ok-push.ensures.items c.loop-j.invariant;
}
