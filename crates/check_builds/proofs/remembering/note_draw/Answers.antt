use Rattle.std.proofs.Common.{◌∷◌, ◌∙◌, ℕ, Option, Some, sym, subst, ap}
use Rattle.std.specs.Ordering.{nat_cmp}
use Rattle.std.specs.BTreeMap as tree
use Rattle.ist_core.specs.LogTerms.{Log, Happened, Draws}
use Rattle.ist_core.specs.declared.events.Event.TheVariants.{Draw}
use Rattle.check_fairness.specs.Answers.{FindsGreatest}
use Rattle.check_builds.proofs.TableLemmas.{draw_known, most_first, most_later}
use Rattle.check_builds.proofs.remembering.note_draw.Goals as goal
use Rattle.check_builds.proofs.remembering.note_draw.Goals.{in-None, in-Some}

pub returns : goal.returns
returns c = record {
  exact = λ log known.
      let Greatest : Log → Option ℕ → Type 0 = λ l.
      FindsGreatest (λ x. Happened (Draws c.args.caller c.args.rebuild x) l) in
      let new : Log = Draw c.args.caller c.args.rebuild c.args.part ∷ log in
      let key = ap (tree.get nat_cmp c.args.drawn.now) c.pair_key-key.ensures.value in
      let found = known c.args.caller c.args.rebuild c.ranges.caller.fits
      c.ranges.rebuild.fits in
      let most : Greatest new (Some c.match-get.most) =
      elim c.match-get.branch [
        | in-None w ↦ subst (λ x. Greatest new (Some x)) (sym w.most-is)
            (most_first log c.args.caller c.args.rebuild c.args.part
            (subst (Greatest log) (sym (w.in-None.ensures.value ∙ key)) found))
        | in-Some w ↦ subst (λ x. Greatest new (Some x)) (sym (w.most-is ∙ w.max-most.ensures))
            (most_later log c.args.caller c.args.rebuild c.args.part w.in-Some.before.now
            (subst (Greatest log) (sym (w.in-Some.ensures.value ∙ key)) found))
      ] in
      draw_known c.args.drawn.now c.insert.new.self log c.args.caller c.args.rebuild c.args.part
      c.match-get.most known c.ranges.rebuild.fits c.ranges.caller.fits most
      (subst (λ k. tree.Updates nat_cmp c.args.drawn.now c.insert.new.self k
      (Some c.match-get.most)) c.pair_key-key.ensures.value c.in_ok-insert.ensures.updates);
}
