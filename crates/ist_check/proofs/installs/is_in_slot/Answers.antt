use Rattle.std.proofs.Common.{◌↔◌, IsTrue, sym, subst}
use Rattle.ist_core.specs.WordTerms.{SlotHolds}
use Rattle.ist_check.specs.Published.{IsWith}
use Rattle.ist_check.proofs.installs.is_in_slot.Goals as goal

pub returns-in-Some : goal.returns-in-Some
returns-in-Some c = let row = c.in-Some.row in record {
  exact = λ t h.
      subst (λ o. IsTrue c.slot_holds.result
      ↔ IsWith (λ change. SlotHolds t change.node change.index change.from) o) (sym c.in-Some.is)
      (subst (λ w. IsTrue c.slot_holds.result ↔ SlotHolds t row.node row.index w) c.from.ensures
      (c.slot_holds.ensures.exact t h));
}
