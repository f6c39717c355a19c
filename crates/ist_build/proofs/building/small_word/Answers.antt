use Rattle.std.proofs.Common.{sym, ◌∙◌}
use Rattle.ist_build.proofs.BuildingLemmas.{is_none, is_one, one_good}
use Rattle.ist_build.proofs.StoringLemmas.{none_below, one_below}
use Rattle.ist_build.proofs.building.small_word.Goals as goal

pub returns-then-is_empty : goal.returns-then-is_empty
returns-then-is_empty c = record {
  laid = λ number place. none_below _ number place _ c.args.leaves.now
      (is_none _ (sym c.is_empty.ensures ∙ c.if-is_empty.true)) c.to_word.ensures.value;
}

pub to_word-requires-2 : goal.to_word-requires-2
to_word-requires-2 c = record {
  good = one_good _ c.know.ensures.sound c.args.leaves.now c.requires.leaves
      (is_one _ (sym c.is_empty.ensures ∙ c.if-is_empty.false) c.requires.few);
}

pub returns : goal.returns
returns c = record {
  laid = λ number place. one_below _ c.know.ensures.sound number place _ c.args.leaves.now
      (is_one _ (sym c.is_empty.ensures ∙ c.if-is_empty.false) c.requires.few)
      c.to_word-2.ensures.value;
}
