use Rattle.std.proofs.Common.{◌∙◌}
use Rattle.ist_rows.proofs.FewStepLemmas.{few_any, none_more}
use Rattle.ist_build.proofs.BackLemmas.{back_more, buildable_back, err_stopped, few_found, found_from}
use Rattle.ist_build.proofs.RootFewLemmas.{found_unset}
use Rattle.ist_build.proofs.root.place_root.Goals as goal

-- there is no root yet
pub find_target-target-requires-clause-buildable : goal.find_target-target-requires-clause-buildable
find_target-target-requires-clause-buildable c =
    buildable_back _ _ c.args.rebuild c.root_of-stood.ensures.back c.requires.buildable

pub set_rows-requires-clause-unset : goal.set_rows-requires-clause-unset
set_rows-requires-clause-unset c =
    found_unset _ _ _ c.find_target-target.ensures.back c.find_target-target.ensures.seen
    (c.root_of-stood.ensures.unset (c.if-stood-to_word.false ∙ c.to_word.ensures.value))

-- few words were taken
pub returns-then-stood-to_word-clause-few : goal.returns-then-stood-to_word-clause-few
returns-then-stood-to_word-clause-few c = λ k told. few_any _ _ _ c.root_of-stood.ensures.none

pub returns-then-target-lt2 : goal.returns-then-target-lt2
returns-then-target-lt2 c = let e = c.find_target-target.ensures in
    let d = found_from _ _ _ c.root_of-stood.ensures.back c.root_of-stood.ensures.none e.back e.seen in
    let s = c.set_small.ensures in let none = none_more _ _ _ d.1 s.none in
    record { back = back_more _ _ _ d.0 s.back; few = λ k told. few_any _ _ _ none; root = s.root; full = tt }

pub returns : goal.returns
returns c = let e = c.find_target-target.ensures in
    let d = found_from _ _ _ c.root_of-stood.ensures.back c.root_of-stood.ensures.none e.back e.seen in
    let s = c.set_rows.ensures in record {
      back = back_more _ _ _ d.0 s.back;
      few = few_found c.set_rows.result _ _ _ _ _ _ d.1 d.0 s.back e.told s.few;
      root = s.root;
      full = err_stopped _ _ _ _ _ c.requires.buildable d.0 c.set_rows.result s.full;
    }
