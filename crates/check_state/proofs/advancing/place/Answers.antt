use Rattle.std.proofs.Common.{◌≡◌, ◌∙◌, subst}
use Rattle.std.proofs.lemmas.Result.{on_ok_weaker}
use Rattle.ist_core.specs.WordTerms.{as_rebuild, with_inners}
use Rattle.ist_core.specs.LogTerms.{placed}
use Rattle.check_events.specs.Mirroring.{Mirrors}
use Rattle.check_state.proofs.advancing.place.Goals as goal

pub returns : goal.returns
returns c = record {
  exact = on_ok_weaker c.give_up_rows.result
      (λ f t h. let qs = with_inners t.pieces c.args.rows.now in
      let found : c.copied-found.result ≡ as_rebuild (t.pieces c.args.rebuild) =
      c.copied-found.ensures ∙ c.get.ensures.value ∙ h.rebuilds c.args.rebuild in
      f (record t {
        pieces = placed qs (as_rebuild (t.pieces c.args.rebuild)) c.args.part c.args.word;
      })
      (subst (λ o. Mirrors c.put_part.new.replica
      (record t { pieces = placed qs o c.args.part c.args.word })) found
      (c.put_part.ensures.exact (record t { pieces = qs }) (c.in_ok-put_inners.ensures.exact
      t h))))
      c.give_up_rows.ensures.exact;
}
