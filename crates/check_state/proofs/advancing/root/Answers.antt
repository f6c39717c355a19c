use Rattle.ist_core.specs.WordTerms.{with_inners, changed_at, with_root}
use Rattle.std.proofs.lemmas.Result.{on_ok_weaker}
use Rattle.check_state.proofs.advancing.root.Goals as goal

pub returns : goal.returns
returns c = record {
  exact = on_ok_weaker c.give_up_rows.result
      (λ f t h. let published = record t { pieces = with_inners t.pieces c.args.rows.now } in
      f (record published {
        pieces = changed_at published.pieces c.args.rebuild (with_root c.args.word);
      }) (c.set_root.ensures.exact published
      (c.in_ok-put_inners.ensures.exact t h)))
      c.give_up_rows.ensures.exact;
}
