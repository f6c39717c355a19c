use Rattle.std.proofs.Common.{map, refl, sym, subst, arith}
use Rattle.std.proofs.lemmas.Result.{IfOk-weaker}
use Rattle.check_fairness.specs.Searching.{AreBuilding}
use Rattle.check_fairness.proofs.RoomLemmas.{spare_is_fair, go_on_fair}
use Rattle.check_fairness.proofs.fairness.is_fair_for.Goals as goal

pub returns-then-are_all_spare : goal.returns-then-are_all_spare
returns-then-are_all_spare c = record {
  exact = λ t k w. (
    (λ _. spare_is_fair t c.args.sizes.now
        (c.are_all_spare.ensures.exact.0 c.if-are_all_spare.true)),
    (λ _. refl),
  );
}

pub returns-then-branch : goal.returns-then-branch
returns-then-branch c = record {
  exact = λ t k w. (
    (λ _. go_on_fair c.args.building.now t c.args.room c.args.caller c.args.sizes.now k
        (omega arith) w ((c.in_ok-goes_on.ensures.exact k.kept).0 c.if-branch.true)),
    (λ _. refl),
  );
}

pub returns : goal.returns
returns c = record {
  exact = IfOk-weaker c.is_fair.result _ _
      (λ b f t k w. f t (subst (λ xs. AreBuilding t (map (λ v. v.items) xs))
      (sym c.as_slice.ensures.value) k.lists) w) c.is_fair.ensures.exact;
}
