use Rattle.std.proofs.Common.{◌∙◌, ap, sym}
use Rattle.std.specs.BTreeMap.{is_at}
use Rattle.std.specs.Map.{lookup, remove_entry}
use Rattle.std.specs.Ordering.{nat_cmp}
use Rattle.check_events.specs.Holding.{of_caller}
use Rattle.check_events.proofs.HeldLemmas.{rises_without}
use Rattle.check_events.proofs.LetGoLemmas.{taken_out, none_goes, listed_without}
use Rattle.check_events.proofs.held.let_go_one.Goals as goal

pub returns-in-Some : goal.returns-in-Some
returns-in-Some c = record {
  exact = λ held k. let b = c.args.base in
      let found = sym (ap (lookup (is_at (nat_cmp b))) k.rows) ∙ sym c.in-Some.ensures.value in
      record {
        rows = c.in-Some.ensures.entries ∙ ap (remove_entry (is_at (nat_cmp b))) k.rows
            ∙ taken_out b held k.rising;
        rising = rises_without b held k.rising;
        callers = listed_without b held c.in-Some.row k.rising found c.args.table.now.of
            c.unlist.new.of k.callers c.unlist.ensures.here c.unlist.ensures.others;
      };
}

pub returns-in_default : goal.returns-in_default
returns-in_default c = record {
  exact = λ held k. let b = c.args.base in
      let none = sym (ap (lookup (is_at (nat_cmp b))) k.rows) ∙ sym c.in_default.ensures.value in
      let same = none_goes b held k.rising none in record {
        rows = c.in_default.ensures.entries ∙ ap (remove_entry (is_at (nat_cmp b))) k.rows
            ∙ taken_out b held k.rising;
        rising = rises_without b held k.rising;
        callers = λ caller. k.callers caller ∙ ap (of_caller caller) (sym same);
      };
}
