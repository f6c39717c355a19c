use Rattle.std.proofs.Common.{arith, rules}
use Rattle.ist_rest.proofs.WholeLemmas.{come_start, come_good, come_less, come_step, come_end, none_between}
use Rattle.ist_rest.proofs.listing.list_words.Goals as goal

-- an interval that ends before it begins
pub returns-then-first-last : goal.returns-then-first-last
returns-then-first-last g c = record {
  listed = none_between _ _ _ c.requires.hold.0 c.requires.hold.1 _ c.if-first-last.true
      c.new-found.ensures.items;
}

pub loop-slot-init : goal.loop-slot-init
loop-slot-init g c = record {
  interval = omega arith;
  come = come_start _ _ _ c.requires.hold.0 c.requires.hold.1 _ _ _ _ _ c.word.ensures.value
      c.from.ensures c.new-left.ensures.items c.in_ok-push.ensures.items c.new-found.ensures.items;
}

pub visit-requires-clause-good : goal.visit-requires-clause-good
visit-requires-clause-good g c =
    come_good _ _ _ _ _ _ _ c.loop-slot.invariant.come c.in-Some.ensures.items

pub loop-slot-smaller : goal.loop-slot-smaller
loop-slot-smaller g c = come_less _ _ _ _ _ _ _ _ c.loop-slot.invariant.come c.in-Some.ensures.items
    c.in_ok-visit.ensures.left

pub loop-slot-preserved : goal.loop-slot-preserved
loop-slot-preserved g c = record {
  interval = c.loop-slot.invariant.interval;
  come = come_step _ _ _ _ _ _ _ _ _ c.loop-slot.invariant.come c.in-Some.ensures.items
      c.in_ok-visit.ensures.left c.in_ok-visit.ensures.found;
}

pub returns : goal.returns
returns g c = record { listed = come_end _ _ _ _ _ c.loop-slot.invariant.come (search rules) }
