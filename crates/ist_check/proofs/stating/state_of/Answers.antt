use Rattle.std.proofs.Common.{◌∙◌}
use Rattle.ist_check.proofs.EntryLemmas.{found}
use Rattle.ist_check.proofs.stating.state_of.Goals as goal

pub returns : goal.returns
returns c = record {
  shown = λ t mirrors.
      record {
        words = mirrors.words;
        next = mirrors.next;
        callers = mirrors.callers;
        anchor = mirrors.anchor;
        leaves = λ base. found c.from_vec.result c.args.replica.leaves base
            (c.from_vec.ensures.value ∙ c.in_ok-entries_of.ensures.value) ∙ mirrors.leaves base;
        inners = λ base. found c.from_vec-2.result c.args.replica.inners base
            (c.from_vec-2.ensures.value ∙ c.in_ok-entries_of-2.ensures.value) ∙ mirrors.inners base;
        changes = λ base. found c.from_vec-3.result c.args.replica.changes base
            (c.from_vec-3.ensures.value ∙ c.in_ok-entries_of-3.ensures.value) ∙ mirrors.changes
            base;
        rebuilds = λ base. found c.from_vec-4.result c.args.replica.rebuilds base
            (c.from_vec-4.ensures.value ∙ c.in_ok-entries_of-4.ensures.value) ∙ mirrors.rebuilds
            base;
        held = c.from_vec-5.ensures.value ∙ c.in_ok-rows_held.ensures.value (t.held) mirrors.held;
      };
}
