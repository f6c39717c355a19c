use Rattle.std.proofs.Common.{◌∙◌, arith, true≢false, sym}
use Rattle.check_builds.proofs.RootLemmas.{has_top, top_keys}
use Rattle.check_builds.proofs.ideals.top_slots.Goals as goal

pub returns-then-not-are_keys : goal.returns-then-not-are_keys
returns-then-not-are_keys c = record {
  exact = λ slots h. let is = c.degree_of.ensures.value in
      let least = c.degree_of.ensures.least in let none = c.if-degree-degree_of.false in
      let tested = c.are_keys.ensures.exact in
      true≢false (sym (tested.1 (top_keys c.args.row.now c.args.leaves.now c.args.above
      c.as_slice.result.now c.as_slice.ensures.value c.in-len4-up.len_at_least
      c.part_end-first.result c.keys_end-end.result
      c.part_end-first.ensures.value c.keys_end-end.ensures.value (λ e. omega arith) (none ∙ is)
      slots h)) ∙ c.if-not-are_keys.true);
}

pub returns-else-not-are_keys : goal.returns-else-not-are_keys
returns-else-not-are_keys c = let is = c.degree_of.ensures.value in
    let least = c.degree_of.ensures.least in let none = c.if-degree-degree_of.false in
    let tested = c.are_keys.ensures.exact in record {
      exact = has_top c.args.row.now c.args.leaves.now c.args.above c.as_slice.result.now
          c.as_slice.ensures.value c.in-len4-up.len_at_least c.part_end-first.result
          c.keys_end-end.result
          c.part_end-first.ensures.value c.keys_end-end.ensures.value (λ e. omega arith) (none ∙ is)
          (omega arith) (omega arith) c.if-status-ne-OPEN_WORD.false c.if-count-ne0.false
          c.if-size-n.false (tested.0 c.if-not-are_keys.false);
    }
