use Rattle.std.proofs.Common.{◌∙◌, refl, sym}
use Rattle.std.proofs.lemmas.Result.{on_ok_weaker}
use Rattle.ist_core.specs.WordTerms.{share_from_fits}
use Rattle.check_fairness.proofs.TargetLemmas.{held_after, lists_known, lists_more}
use Rattle.check_fairness.proofs.lists.add_keys.Goals as goal

pub returns-then-contains : goal.returns-then-contains
returns-then-contains c = record {
  exact = λ t u gains known. lists_known t u c.args.keys gains c.args.building.now
      (sym c.contains.ensures ∙ c.if-contains.true) known;
}

pub returns : goal.returns
returns c = record {
  exact = on_ok_weaker c.add_lists.result
      (λ adds t u gains known.
      lists_more t u c.args.keys gains c.args.building.now _ share_from_fits
      (λ k. held_after c.args.building.now.counts c.insert.new.self c.args.keys k
      (c.in_ok-insert.ensures.updates.0 k)) adds refl known)
      c.add_lists.ensures.added;
}
