use Rattle.std.proofs.Common.{◌≡◌, ◌↔◌, ◌∙◌, ℕ, Some, sym, ap, subst}
use Rattle.std.specs.BTreeMap.{is_at}
use Rattle.std.specs.Map.{lookup}
use Rattle.std.specs.Ordering.{nat_cmp}
use Rattle.ist_core.specs.declared.lists.HeldRow.{HeldRow}
use Rattle.check_fairness.proofs.AnswerLemmas.{iff_trans}
use Rattle.check_events.proofs.HeldLemmas.{held_at, none_found, one_found}
use Rattle.check_events.proofs.held.size_held.Goals as goal

pub returns-in-None : goal.returns-in-None
returns-in-None c = record {
  exact = λ held k size. (
    (λ e. cc),
    (λ a. absurd (none_found held
        record { caller = c.args.caller; base = c.args.base; size = size } k.rising
        (sym (ap (lookup (is_at (nat_cmp c.args.base))) k.rows) ∙ sym c.in-None.ensures.value) a)),
  );
}

pub returns-in-Some : goal.returns-in-Some
returns-in-Some c = record {
  exact = λ held k size. let found = c.in-Some.found.now in
      let there = sym (ap (lookup (is_at (nat_cmp c.args.base))) k.rows)
      ∙ sym c.in-Some.ensures.value in
      let lies = (held_at held c.args.base found there).1 in
      let row : ℕ → HeldRow = λ b. record { caller = c.args.caller; base = b; size = size } in
      iff_trans (subst (λ (b : ℕ). (c.size_of.result ≡ Some size) ↔ (row b ≡ found)) lies
      (c.size_of.ensures.exact size))
      (one_found held (row c.args.base) found k.rising there);
}
