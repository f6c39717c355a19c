use Rattle.std.proofs.Common.{◌∙◌, sym, arith}
use Rattle.std.proofs.lemmas.Result.{IfOk-weaker}
use Rattle.check_fairness.proofs.AnswerLemmas.{iff_trans, never, is_not}
use Rattle.check_events.proofs.DecisionLemmas.{rebuild_stands}
use Rattle.check_builds.proofs.FitLemmas.{root_is, root_publishes, root_unfinished}
use Rattle.check_builds.proofs.building.can_root.Goals as goal

pub returns-then-not-may_publish : goal.returns-then-not-may_publish
returns-then-not-may_publish c = record {
  exact = λ t h starts free.
      never (λ can. is_not c.may_publish.result _ (c.may_publish.ensures.exact t h)
      c.if-not-may_publish.true (root_publishes t c.args.caller c.args.rebuild c.args.word
      c.args.rows.now can));
}

pub returns-in-None-finished_keys : goal.returns-in-None-finished_keys
returns-in-None-finished_keys c = record {
  exact = λ t h starts free.
      let stands = rebuild_stands c.args.replica.now t c.args.rebuild h c.in-Some.row.now
      (sym c.in-Some.ensures.value) in
      never (root_unfinished t c.args.caller c.args.rebuild c.args.word c.args.rows.now
      c.in-Some.row.now stands (c.in-None-finished_keys.ensures.exact t h));
}

pub returns-in-Some-finished_keys : goal.returns-in-Some-finished_keys
returns-in-Some-finished_keys c = record {
  exact = IfOk-weaker c.has_root.result _ _
      (λ may f t h starts free.
      let stands = rebuild_stands c.args.replica.now t c.args.rebuild h c.in-Some.row.now
      (sym c.in-Some.ensures.value) in
      let publish = (c.may_publish.ensures.exact t h).0 c.if-not-may_publish.false in
      iff_trans (f t h) (root_is t c.args.caller c.args.rows.now publish free c.args.rebuild
      c.args.word c.in-Some-finished_keys.k c.in-Some.row.now (omega (arith, h.callers)) stands
      ((starts c.args.rebuild).0 (sym c.contains.ensures ∙ c.if-not-contains.false))
      c.if-row-ne-UNSET_WORD.false (c.in-Some-finished_keys.ensures.exact t h).0))
      c.has_root.ensures.exact;
}
