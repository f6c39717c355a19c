use Rattle.std.proofs.Common.{sym, arith}
use Rattle.std.proofs.lemmas.Result.{IfOk-weaker}
use Rattle.check_fairness.proofs.AnswerLemmas.{iff_trans, never, is_not}
use Rattle.check_events.proofs.DecisionLemmas.{rebuild_stands}
use Rattle.check_builds.proofs.DrawLemmas.{part_fits, place_publishes, no_free_root}
use Rattle.check_builds.proofs.building.can_place.Goals as goal

pub returns-then-not-may_publish : goal.returns-then-not-may_publish
returns-then-not-may_publish c = record {
  exact = λ t h free kept.
      never (λ can. is_not c.may_publish.result _ (c.may_publish.ensures.exact t h)
      c.if-not-may_publish.true (place_publishes t c.args.caller c.args.rebuild c.args.i
      c.args.word c.args.rows.now can));
}

pub returns-then-not-is_free : goal.returns-then-not-is_free
returns-then-not-is_free c = record {
  exact = λ t h free kept.
      let stands = rebuild_stands c.args.replica.now t c.args.rebuild h c.in-Some.row.now
      (sym c.in-Some.ensures.value) in
      never (λ can. no_free_root t c.args.caller c.args.rebuild c.args.i c.args.word
      c.args.rows.now can c.in-Some.row.now stands c.in-Some-inner_of_word.root
      c.in-Some-inner_of_word.ensures.exact.1
      (is_not c.is_free.result _ (c.is_free.ensures.exact t h) c.if-not-is_free.true));
}

pub returns-else-not-is_free : goal.returns-else-not-is_free
returns-else-not-is_free c = record {
  exact = IfOk-weaker c.has_part.result _ _
      (λ may f t h free kept.
      let stands = rebuild_stands c.args.replica.now t c.args.rebuild h c.in-Some.row.now
      (sym c.in-Some.ensures.value) in
      iff_trans (f t h kept) (part_fits t c.args.caller c.args.rows.now
      ((c.may_publish.ensures.exact t h).0 c.if-not-may_publish.false) free
      c.args.rebuild c.args.i c.args.word c.in-Some-inner_of_word.root c.in-Some.row.now
      (omega (arith, h.callers)) stands c.in-Some-inner_of_word.ensures.exact.0
      ((c.is_free.ensures.exact t h).0 c.if-not-is_free.false)))
      c.has_part.ensures.exact;
}
