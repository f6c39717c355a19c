use Rattle.std.proofs.Common.{arith}
use Rattle.ist_core.specs.WordTerms.{share_from_is}
use Rattle.ist_rows.proofs.FewStepLemmas.{few_any}
use Rattle.ist_build.proofs.BackLemmas.{back_more, rooted_back, err_stopped, few_found, none_found}
use Rattle.ist_build.proofs.FilledLemmas.{few_filled}
use Rattle.ist_build.proofs.filling.fill_root.Goals as goal

-- few keys
pub returns-then-target-lt-SHARE_FROM : goal.returns-then-target-lt-SHARE_FROM
returns-then-target-lt-SHARE_FROM c = let e = c.find_target-target.ensures in record {
  back = e.back;
  few = λ k told. few_any _ _ _ (none_found _ _ e.back e.seen);
  filled = few_filled _ c.know.ensures.sound c.args.rebuild _ e.told
      (rooted_back _ _ c.args.rebuild e.back c.requires.rooted) (omega (arith, share_from_is));
  full = tt;
}

-- many keys
pub fill_many-requires-clause-rooted : goal.fill_many-requires-clause-rooted
fill_many-requires-clause-rooted c =
    rooted_back _ _ c.args.rebuild c.find_target-target.ensures.back c.requires.rooted

pub fill_many-requires-clause-many : goal.fill_many-requires-clause-many
fill_many-requires-clause-many c = omega (arith, share_from_is)

pub returns : goal.returns
returns c = let e = c.find_target-target.ensures in let f = c.fill_many.ensures in record {
  back = back_more _ _ _ e.back f.back;
  few = few_found c.fill_many.result _ _ _ _ _ _ (none_found _ _ e.back e.seen) e.back f.back e.told f.few;
  filled = f.filled;
  full = err_stopped _ _ _ _ _ c.requires.buildable e.back c.fill_many.result f.full;
}
