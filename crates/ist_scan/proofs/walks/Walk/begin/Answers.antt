use Rattle.std.proofs.Common.{◌≡◌, ap, ◌∙◌, subst, sym, arith}
use Rattle.ist_scan.specs.Cuts.{CutsAt}
use Rattle.ist_scan.specs.Shots.{ArePairsOf}
use Rattle.ist_scan.proofs.ShotLemmas.{looked_not, some_pairs}
use Rattle.ist_scan.proofs.walks.Walk.begin.Goals as goal

pub returns-then-self-clause-looked : goal.returns-then-self-clause-looked
returns-then-self-clause-looked c = looked_not c.args.pass.now

pub returns-then-self-clause-way : goal.returns-then-self-clause-way
returns-then-self-clause-way c =
    c.requires.way.way (ap (λ w. w.begun) (sym c.self.view_is) ∙ c.if-self.true)

-- its first pair is where its first key cuts the pairs of the shot
pub returns-clause-way : goal.returns-clause-way
returns-clause-way c = let pass = c.args.pass.now in let next = c.count_below-cut.result.count in
    let it = some_pairs pass c.args.shot c.know.ensures.lawful c.requires.frozen in
    let fresh = c.requires.way.fresh (ap (λ w. w.begun) (sym c.self.view_is) ∙ c.if-self.false) in
    let given : c.self.inside.given ≡ 0 = ap (λ w. w.given) c.self.view_is ∙ fresh in
    let shot : c.self.inside.frozen ≡ c.args.shot
    = ap (λ w. w.shot) c.self.view_is ∙ c.requires.its_shot in
    record {
      pairs = it.0;
      has = subst (λ s. ArePairsOf c.count_below-cut.new.pass s it.0) (sym shot)
          (c.count_below-cut.ensures.looked.pairs c.args.shot it.0 it.1);
      start = next;
      cut = subst (λ n. CutsAt it.0 n next) c.from.ensures (c.count_below-cut.ensures.cuts it.0 it.1);
      next_is = omega (arith, given);
    }
