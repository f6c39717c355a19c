use Rattle.std.proofs.Common.{map, rules}
use Rattle.std.proofs.lemmas.Result.{on_ok_weaker}
use Rattle.check_fairness.specs.Keeping.{AreKept}
use Rattle.check_fairness.proofs.keeping.keep.Goals as goal

pub returns-in-Some-clause-kept : goal.returns-in-Some-clause-kept
returns-in-Some-clause-kept c = let new = c.change_to.new.kept in
    let written = (c.get_mut.follows.holds new).3 (search rules) in on_ok_weaker c.change_to.result
    (λ are known. record {
      kept = new;
      found = written.1;
      are_kept = are (known c.args.caller c.in-Some.kept.now (search rules));
    }) c.change_to.ensures.sizes
