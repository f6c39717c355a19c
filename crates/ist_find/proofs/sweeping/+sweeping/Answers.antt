use Rattle.std.proofs.Common.{◌∙◌, ◌+◌, sym, ap, subst, arith}
use Rattle.ist_layout.specs.Meanings.{ref_meant}
use Rattle.ist_rule.specs.RuleTerms.{MayWalk}
use Rattle.ist_rule.specs.declared.view.View.{View}
use Rattle.ist_rule.proofs.EventLemmas.{goes_on_more}
use Rattle.ist_find.specs.Sweeps.{HasSwept, starting}
use Rattle.ist_find.proofs.SlotEndLemmas.{not_inner, one_slot}
use Rattle.ist_find.proofs.SlotSawLemmas.{led_node}
use Rattle.ist_find.proofs.SweepTurnLemmas.{slot_leads, one_more, goes_on_after}
use Rattle.ist_find.proofs.SweepingLemmas.{sweeps_none, row_is_swept, end_is_swept}
use Rattle.ist_find.proofs.sweeping.+sweeping.Goals as goal

-- ---- one slot

-- the row lies above the node, and the keys led to it
pub sweep_slot-sweep_below-requires : goal.sweep_slot-sweep_below-requires
sweep_slot-sweep_below-requires t c =
    let below = c.requires.below.0.inner c.in-Inner.base (ap ref_meant c.in-Inner.is) in
    let up = below.0 in let falls = c.decreases in let small = c.ranges.node.fits in
    (omega arith, ((below.2, c.requires.below.1), (c.requires.some, λ is. absurd (below.1 is))))

pub sweep_slot-returns-in-Inner-clause-swept : goal.sweep_slot-returns-in-Inner-clause-swept
sweep_slot-returns-in-Inner-clause-swept t c =
    row_is_swept _ _ c.args.from c.args.read.to c.in-Inner.base _ _ _ (ap ref_meant c.in-Inner.is)
    c.sweep_below.result c.sweep_below.ensures.swept

pub sweep_slot-sweep_end-requires : goal.sweep_slot-sweep_end-requires
sweep_slot-sweep_end-requires t c = record {
  end = (c.requires.below.0.end (not_inner c.args.read.reference c.in_default.not-Inner), c.requires.below.1);
}

pub sweep_slot-returns-in_default-clause-swept : goal.sweep_slot-returns-in_default-clause-swept
sweep_slot-returns-in_default-clause-swept t c =
    end_is_swept _ _ c.args.from c.args.read.to _ _ _ c.sweep_end.result c.sweep_end.ensures.read

-- ---- slot after slot

pub sweep_below-first_slot-place-requires : goal.sweep_below-first_slot-place-requires
sweep_below-first_slot-place-requires t c = record {
  node = (
    led_node _ c.know.ensures.sound c.args.first c.args.last c.args.node c.requires.some c.requires.led.0,
    c.requires.led.1,
  );
}

pub sweep_below-slots-init : goal.sweep_below-slots-init
sweep_below-slots-init t c = record {
  here = sweeps_none _ _ c.first_slot-place.ensures.seen c.args.node c.args.first c.args.last _ _ _ _
      c.first_slot-place.ensures.loads c.first_slot-place.ensures.at c.requires.some c.requires.led.0;
  top = λ is. subst MayWalk (sym (c.first_slot-place.ensures.stays is)) (c.requires.top is);
}

-- what the slot holds was led to
pub sweep_below-sweep_slot-requires : goal.sweep_below-sweep_slot-requires
sweep_below-sweep_slot-requires t c = let falls = c.decreases in
    let small = c.ranges.node.fits in (
      omega arith,
      (
        (
          slot_leads _ _ _ c.args.node c.args.first c.slots.from c.read_from-read.result.to c.args.last _ _ _ _
              _ _ c.slots.invariant.here c.read_from-read.ensures.read,
          ap (λ (v : View). v.table) c.read_from-read.ensures.read.seen.same
              ∙ ap (λ (v : View). v.table) c.slots.invariant.here.seen.same ∙ c.requires.led.1,
        ),
        c.read_from-read.ensures.read.ends.some,
      ),
    )

pub sweep_below-returns-in_err-sweep_slot-clause-seen : goal.sweep_below-returns-in_err-sweep_slot-clause-seen
sweep_below-returns-in_err-sweep_slot-clause-seen t c =
    goes_on_more _ _ _ (goes_on_more _ _ _ c.slots.invariant.here.seen c.read_from-read.ensures.read.seen)
    c.sweep_slot.ensures.seen

-- all keys were swept
pub sweep_below-returns-then-read-last-clause-seen : goal.sweep_below-returns-then-read-last-clause-seen
sweep_below-returns-then-read-last-clause-seen t c =
    goes_on_more _ _ _ (goes_on_more _ _ _ c.slots.invariant.here.seen c.read_from-read.ensures.read.seen)
    c.sweep_slot.ensures.seen

pub sweep_below-returns-then-read-last-clause-swept : goal.sweep_below-returns-then-read-last-clause-swept
sweep_below-returns-then-read-last-clause-swept t c =
    subst (λ n. HasSwept c.args.token.now.view c.sweep_slot.new.token.view c.args.first (n + 1) c.args.last
    c.args.node 0 (starting c.args.token.now.view c.args.node c.args.first) c.args.found.now.items
    c.sweep_slot.new.found.items) c.if-read-last.true
    (one_more _ _ _ c.args.node c.args.first c.slots.from c.read_from-read.result.to c.args.last _ _ _ _ _ _
    c.slots.invariant.here c.read_from-read.ensures.read _ _ c.sweep_slot.ensures.seen
    c.in_ok-sweep_slot.ensures.swept)

-- or the next key begins the next slot
pub sweep_below-slots-preserved : goal.sweep_below-slots-preserved
sweep_below-slots-preserved t c = let ends = c.read_from-read.ensures.read.ends in
    let top = ends.top in let other = c.if-read-last.false in record {
      here = goes_on_after _ _ _ c.args.node c.args.first c.slots.from c.read_from-read.result.to c.args.last _ _ _
          _ _ _ c.slots.invariant.here c.read_from-read.ensures.read _ _ c.sweep_slot.ensures.seen
          c.in_ok-sweep_slot.ensures.swept (omega arith);
      top = λ is. absurd (one_slot _ c.slots.invariant.here.seen.sound c.args.node is _ (ends.edge (omega arith)));
    }
