use Rattle.std.proofs.Common.{◌<◌, ◌↔◌, ℕ, IsTrue, subst, arith}
use Rattle.ist_core.specs.LogTerms.{Happened, Draws}
use Rattle.ist_core.specs.WordTerms.{share_from_is}
use Rattle.check_fairness.proofs.AnswerLemmas.{iff_trans, never}
use Rattle.check_builds.proofs.DrawLemmas.{draw_unfinished, draw_unshared, draw_is}
use Rattle.check_builds.proofs.drawing.can_draw.Goals as goal

pub returns-in-None-finished_keys : goal.returns-in-None-finished_keys
returns-in-None-finished_keys c = record {
  exact = λ t log h k.
      never (draw_unfinished c.args.replica.now t log c.args.caller c.args.rebuild c.args.part
      c.in-Some.row.now h c.in-Some.ensures.value (c.in-None-finished_keys.ensures.exact t h));
}

pub returns-then-keys-lt-SHARE_FROM : goal.returns-then-keys-lt-SHARE_FROM
returns-then-keys-lt-SHARE_FROM c = record {
  exact = λ t log h k. let few = c.if-keys-lt-SHARE_FROM.true in
      never (draw_unshared c.args.replica.now t log c.args.caller c.args.rebuild c.args.part
      c.in-Some.row.now h c.in-Some.ensures.value c.in-Some-finished_keys.keys
      (c.in-Some-finished_keys.ensures.exact t h).1 (omega (arith, share_from_is)));
}

pub returns-else-keys-lt-SHARE_FROM : goal.returns-else-keys-lt-SHARE_FROM
returns-else-keys-lt-SHARE_FROM c = record {
  exact = λ t log h k. let found = c.in-Some-finished_keys.ensures.exact t h in
      let within = subst (λ d. IsTrue c.is_within.result
      ↔ ((x : ℕ) → Happened (Draws c.args.caller c.args.rebuild x) log → x < d))
      c.degree_of.ensures.value (c.is_within.ensures.exact log k) in
      iff_trans within (draw_is c.args.replica.now t log c.args.caller c.args.rebuild
      c.args.part c.in-Some.row.now h c.in-Some.ensures.value c.in-Some-finished_keys.keys
      (omega (arith, h.callers)) (omega arith) (omega arith) found.0 found.1
      (omega (arith, share_from_is)));
}
