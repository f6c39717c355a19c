use Rattle.std.proofs.Common.{refl}
use Rattle.check_fairness.proofs.KeepingLemmas.{kept_cut}
use Rattle.check_fairness.proofs.keeping.cut.Goals as goal

pub returns : goal.returns
returns c = record {
  kept = λ lists k.
      kept_cut lists c.args.kept.now _ c.args.n refl c.requires.within c.truncate.ensures.items
      c.truncate-2.ensures.items k;
  sizes = c.truncate.ensures.items;
}
