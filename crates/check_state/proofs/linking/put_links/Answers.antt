use Rattle.std.proofs.Common.{◌∙◌, length, sym, ap, arith}
use Rattle.check_events.proofs.DecisionLemmas.{inner_stands}
use Rattle.check_state.proofs.WaitingLemmas.{puts_one, puts_all}
use Rattle.check_state.proofs.HangingLemmas.{word_at}
use Rattle.check_state.proofs.linking.put_links.Goals as goal
use Rattle.ist_core.proofs.AllWordLemmas.{same_inner}

pub loop-index-preserved : goal.loop-index-preserved
loop-index-preserved c = λ t h free row e.
    let stands = inner_stands c.args.replica.now t c.args.node h c.in-Some.row.now
    (sym c.in-Some.ensures.value) in
    let same = same_inner (t.pieces c.args.node) c.in-Some.row.now row stands e in
    let words = c.as_slice-word-items.ensures.value ∙ ap (λ r. r.slots) same in
    let at = word_at c.as_slice-word-items.result.now row.slots c.loop-index.index words (omega arith)
    in
    puts_one t c.args.node c.loop-index.index _ row c.args.waiting.now.items
    c.loop-index.waiting.items c.put_link.new.waiting.items free e at
    (c.loop-index.invariant t h free row e) (c.in_ok-put_link-in-Some.ensures.exact t h)

pub returns-after-loop-index : goal.returns-after-loop-index
returns-after-loop-index c = record {
  exact = λ t h free row e.
      let stands = inner_stands c.args.replica.now t c.args.node h c.in-Some.row.now
      (sym c.in-Some.ensures.value) in
      let same = same_inner (t.pieces c.args.node) c.in-Some.row.now row stands e in
      let words = ap length (c.as_slice-word-items.ensures.value ∙ ap (λ r. r.slots) same) in
      puts_all t c.args.node row c.args.waiting.now.items c.loop-index.waiting.items
      c.loop-index.index (omega arith) free e (c.loop-index.invariant t h free row e);
}
