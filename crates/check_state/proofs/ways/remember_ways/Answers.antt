use Rattle.std.proofs.Common.{◌∷◌}
use Rattle.std.proofs.lemmas.Result.{on_ok_weaker}
use Rattle.ist_core.specs.WordTerms.{start}
use Rattle.check_state.proofs.WayTableLemmas.{keys_stay, ways_stay}
use Rattle.check_state.proofs.ways.remember_ways.Goals as goal

pub returns-then-not-yes : goal.returns-then-not-yes
returns-then-not-yes c = record {
  exact = λ pairs words log law mirrors k h.
      ways_stay (start pairs words) log c.args.event.now c.args.slots.now k
      (keys_stay pairs words (c.args.event.now ∷ log) law) c.args.ways.now h;
}

pub returns-in-Some : goal.returns-in-Some
returns-in-Some c = record {
  exact = on_ok_weaker c.add_ways.result
      (λ exact pairs words log law mirrors k h.
      exact pairs words (c.args.event.now ∷ log) law mirrors k
      (ways_stay (start pairs words) log c.args.event.now c.args.slots.now k
      (keys_stay pairs words (c.args.event.now ∷ log) law) c.args.ways.now h))
      c.add_ways.ensures.exact;
}

pub returns-in_default : goal.returns-in_default
returns-in_default c = record {
  exact = λ pairs words log law mirrors k h.
      ways_stay (start pairs words) log c.args.event.now c.args.slots.now k
      (keys_stay pairs words (c.args.event.now ∷ log) law) c.args.ways.now h;
}
