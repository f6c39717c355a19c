use Rattle.std.proofs.Common.{◌∙◌, sym, ap}
use Rattle.std.specs.BTreeMap.{is_at}
use Rattle.std.specs.Map.{lookup}
use Rattle.std.specs.Ordering.{nat_cmp}
use Rattle.check_fairness.proofs.AnswerLemmas.{never, iff_trans}
use Rattle.check_events.proofs.HeldLemmas.{none_found, one_found}
use Rattle.check_events.proofs.held.has_row.Goals as goal

pub returns-in-None : goal.returns-in-None
returns-in-None c = record {
  exact = λ held k. never (none_found held c.args.row k.rising
      (sym (ap (lookup (is_at (nat_cmp c.args.row.base))) k.rows) ∙ sym c.in-None.ensures.value));
}

pub returns-in-Some : goal.returns-in-Some
returns-in-Some c = record {
  exact = λ held k. iff_trans c.is_same.ensures.exact
      (one_found held c.args.row c.in-Some.found.now k.rising
      (sym (ap (lookup (is_at (nat_cmp c.args.row.base))) k.rows) ∙ sym c.in-Some.ensures.value));
}
