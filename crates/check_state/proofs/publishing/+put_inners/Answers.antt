use Rattle.std.proofs.Common.{subst}
use Rattle.std.proofs.lemmas.Result.{on_ok_weaker}
use Rattle.ist_core.specs.WordTerms.{inner_of, with_row, with_inners}
use Rattle.check_events.specs.Mirroring.{Mirrors}
use Rattle.check_fairness.proofs.AnswerLemmas.{following}
use Rattle.check_state.proofs.PublishLemmas.{first_published}
use Rattle.check_state.proofs.publishing.+put_inners.Goals as goal

pub returns-in_ok-put_inners-in-len1-up : goal.returns-in_ok-put_inners-in-len1-up
returns-in_ok-put_inners-in-len1-up t c = record {
  exact = on_ok_weaker c.put_as_inner.result
      (λ f u h. let rest = following c.args.rows.now in
      let v = record u { pieces = with_inners u.pieces rest } in
      first_published c.put_as_inner.new.replica u c.args.rows.now c.row-item.result
      c.in-len1-up.len_at_least c.row-item.is
      (subst (λ ws. Mirrors c.put_as_inner.new.replica
      (record v { pieces = with_row v.pieces c.row-item.result.base (inner_of ws) }))
      c.as_slice.ensures.value
      (f v (c.in_ok-put_inners-in-len1-up.ensures.exact u h))))
      c.put_as_inner.ensures.exact;
}
