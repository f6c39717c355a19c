use Rattle.std.proofs.Common.{reverse, subst, Some}
use Rattle.std.proofs.lemmas.Result.{IfOk-weaker}
use Rattle.ist_core.specs.WordTerms.{LeafAt, logical}
use Rattle.check_builds.specs.Reading.{IsReadingOf}
use Rattle.check_builds.proofs.GatherLemmas.{first_empty, first_gathered, row_gathered}
use Rattle.check_builds.proofs.leaves.add_of_slot.Goals as goal

pub returns-in-Nothing : goal.returns-in-Nothing
returns-in-Nothing c = record {
  exact = λ t h.
      first_empty t.pieces c.args.word (reverse c.args.waiting.now.items) c.args.out.now.items
      (subst (λ r. IsReadingOf r (logical t.pieces c.args.word)) c.in-Nothing.is
      (c.read_slot.ensures.exact t h));
}

pub returns-in-OneLeaf : goal.returns-in-OneLeaf
returns-in-OneLeaf c = record {
  exact = IfOk-weaker c.add_leaf.result _ _
      (λ found f t h. first_gathered t.pieces c.args.word (reverse c.args.waiting.now.items)
      (Some (LeafAt c.in-OneLeaf.leaf)) c.args.out.now.items c.add_leaf.new.out.items found
      (subst (λ r. IsReadingOf r (logical t.pieces c.args.word)) c.in-OneLeaf.is
      (c.read_slot.ensures.exact t h)) (f t h))
      c.add_leaf.ensures.exact;
}

pub returns-in-OneRow : goal.returns-in-OneRow
returns-in-OneRow c = record {
  exact = IfOk-weaker c.put_slots.result _ _
      (λ found f t h. row_gathered t.pieces c.args.word c.in-OneRow.row c.args.waiting.now.items
      c.put_slots.new.waiting.items c.args.out.now.items found
      (subst (λ r. IsReadingOf r (logical t.pieces c.args.word)) c.in-OneRow.is
      (c.read_slot.ensures.exact t h)) (f t h))
      c.put_slots.ensures.exact;
}
