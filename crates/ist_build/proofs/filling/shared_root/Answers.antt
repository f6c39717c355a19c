use Rattle.std.proofs.Common.{◌+◌, rules, arith}
use Rattle.ist_rule.proofs.EventLemmas.{looked_goes_on}
use Rattle.ist_rows.proofs.FewStepLemmas.{none_loads}
use Rattle.ist_build.proofs.BackLemmas.{back_loads}
use Rattle.ist_build.proofs.FilledLemmas.{names_root}
use Rattle.ist_build.proofs.PlaceLemmas.{word_there}
use Rattle.ist_build.proofs.FewLemmas.{many_two, target_few}
use Rattle.ist_build.proofs.filling.shared_root.Goals as goal

pub load-root-requires : goal.load-root-requires
load-root-requires c = let told = c.requires.told in
    let there = word_there c.know.ensures.sound c.know.ensures.words c.requires.ready.1 _ _ told.published 3
    (c.from.result + 3) (omega arith) (omega (arith, c.from.ensures)) in
    record { same_table = c.requires.ready.1; within = there.0; no_walk = there.1 }

pub overflow_cast-result : goal.overflow_cast-result
overflow_cast-result c =
    let n = names_root _ _ _ _ _ _ _ c.requires.told c.requires.target c.requires.rooted c.requires.many
    (omega (arith, c.from.ensures)) c.load-root.ensures.looked in
    record { fits = n.low }

pub degree-requires : goal.degree-requires
degree-requires c =
    let few = target_few _ c.know.ensures.sound _ c.args.target.keys c.requires.told.finished in
    record { several = many_two _ c.requires.many; fits = omega arith }

pub returns : goal.returns
returns c = let g = looked_goes_on _ _ _ _ c.load-root.ensures.looked in
    let n = names_root _ _ _ _ _ _ _ c.requires.told c.requires.target c.requires.rooted c.requires.many
    (omega (arith, c.from.ensures)) c.load-root.ensures.looked in
    record {
      back = back_loads c.args.who.now _ c.requires.ready.0 g;
      none = none_loads c.args.who.now _ c.requires.ready.0.caller.mine g;
      shared = record { is = n.shared; degree_is = c.degree.ensures.value };
      rebuild = search rules;
      keys = search rules;
    }
