use Rattle.std.proofs.Common.{◌≡◌, sym, subst, arith}
use Rattle.std.proofs.lemmas.Option.{IfSome_then}
use Rattle.ist_core.specs.WordTerms.{child_count, anchor, start}
use Rattle.ist_core.specs.LogTerms.{state_of}
use Rattle.check_events.proofs.DecisionLemmas.{inner_stands}
use Rattle.check_state.specs.Leading.{IsSpanOf, IsWayBy}
use Rattle.check_state.proofs.WayTableLemmas.{keys_stay}
use Rattle.check_state.proofs.WayToRowLemmas.{below_is, row_rises, narrowed}
use Rattle.check_state.proofs.ways.way_by.Goals as goal

pub returns-then-node-from : goal.returns-then-node-from
returns-then-node-from c = record {
  exact = IfSome_then c.top_way.result c.top_way.ensures.exact
      (λ way f pairs words log lawful mirrors h. let same : anchor ≡ c.args.node = omega arith in
      subst (λ n. IsWayBy (start pairs words) log n c.args.index way) same
      (f (start pairs words) log (keys_stay pairs words log lawful)));
}

pub returns-in-Some-span_of : goal.returns-in-Some-span_of
returns-in-Some-span_of c = record {
  exact = λ pairs words log lawful mirrors h slots row k e. let at = sym c.in-Some.ensures.value in
      let stands = inner_stands c.args.replica.now (state_of pairs words log) c.args.node mirrors
      c.in-Some-get.row.now (sym c.in-Some-get.ensures.value) in
      let span = subst (λ ks. IsSpanOf ks c.args.index c.in-Some-span_of.span.low
      c.in-Some-span_of.span.high) c.as_slice.ensures.value c.in-Some-span_of.ensures.exact
      (row_rises pairs words log lawful c.args.node c.in-Some-get.row.now stands) in
      below_is (start pairs words) log slots k (keys_stay pairs words log lawful) c.args.node
      c.args.index row c.in-Some.above.now _ c.in-Some-get.row.now (omega arith) e
      (h c.args.node c.in-Some.above.now at) stands
      (narrowed c.in-Some.above.now.low c.in-Some.above.now.high c.in-Some-span_of.span.low
      c.in-Some-span_of.span.high _ _
      (λ key. c.args.index ≡ child_count c.in-Some-get.row.now.keys key) c.max.ensures
      c.min.ensures span)
      (c.jump_from.ensures.exact (start pairs words) log h at slots c.args.index row k e);
}
