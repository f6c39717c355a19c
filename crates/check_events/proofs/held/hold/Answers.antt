use Rattle.std.proofs.Common.{◌∙◌, ◌<◌, ap, subst}
use Rattle.std.specs.BTreeMap.{insert_entry}
use Rattle.std.specs.Ordering.{nat_cmp}
use Rattle.ist_core.specs.LogTerms.{Each}
use Rattle.check_events.proofs.HeldLemmas.{put_last, rises_last}
use Rattle.check_events.proofs.LetGoLemmas.{listed_last}
use Rattle.check_events.proofs.held.hold.Goals as goal

pub returns : goal.returns
returns c = record {
  exact = λ held k. let row = c.args.row in
      let below = subst (Each (λ e. e.0 < row.base)) k.rows c.requires.above in record {
        rows = c.in_ok-insert.ensures.entries
            ∙ ap (λ es. insert_entry nat_cmp es row.base row) k.rows ∙ put_last held row below;
        rising = rises_last held row k.rising below;
        callers = listed_last held row c.args.table.now.of c.list.new.of k.callers
            c.in_ok-list.ensures.here c.in_ok-list.ensures.others;
      };
}
