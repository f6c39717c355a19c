use Rattle.std.proofs.Common.{map, sym, subst}
use Rattle.std.proofs.lemmas.Result.{on_ok_weaker}
use Rattle.check_fairness.specs.Keeping.{KnowsReadings, AreKept}
use Rattle.check_fairness.proofs.keeping.keep_readings.Goals as goal

pub returns-clause-kept : goal.returns-clause-kept
returns-clause-kept c = let building = c.args.building.now in on_ok_weaker c.keep.result
    (λ are known _ _. subst (λ ls. AreKept c.keep.new.all (map (λ v. v.items) ls) c.args.caller
    c.args.sizes.now) c.as_slice.ensures.value
    (are (subst (λ ls. KnowsReadings building.kept (map (λ v. v.items) ls))
    (sym c.as_slice.ensures.value) known))) c.keep.ensures.kept
