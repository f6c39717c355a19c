use Rattle.std.proofs.Common.{◌≡◌, ◌+◌, ap, ◌∙◌, subst, sym}
use Rattle.ist_core.specs.TreeTerms.{pairs_of}
use Rattle.ist_scan.specs.Shots.{ArePairsOf, map_seen}
use Rattle.ist_scan.specs.Totals.{total_of}
use Rattle.ist_scan.proofs.ShotLemmas.{between_is, none_between, looked_not, looked_more, of_pairs}
use Rattle.ist_scan.proofs.shots.Shot.total.Goals as goal

pub returns-then-first-last-clause-looked : goal.returns-then-first-last-clause-looked
returns-then-first-last-clause-looked c = looked_not c.args.pass.now

pub returns-then-first-last-clause-by_pairs : goal.returns-then-first-last-clause-by_pairs
returns-then-first-last-clause-by_pairs c = λ pairs k. c.of_none.ensures.value
    ∙ ap total_of (sym (none_between pairs c.args.first c.args.last c.if-first-last.true))

pub returns-then-first-last-clause-total : goal.returns-then-first-last-clause-total
returns-then-first-last-clause-total c = λ position o.
    returns-then-first-last-clause-by_pairs c (pairs_of (map_seen c.args.pass.now position))
    (of_pairs c.args.pass.now position c.args.self.now c.know.ensures.lawful o)

pub returns-clause-looked : goal.returns-clause-looked
returns-clause-looked c = looked_more c.args.pass.now c.ends_of-ends.new.pass c.total_at.new.pass
    c.ends_of-ends.ensures.looked c.total_at.ensures.looked

pub returns-clause-by_pairs : goal.returns-clause-by_pairs
returns-clause-by_pairs c = λ pairs k.
    (let shot = c.self.inside.frozen in
    let h = subst (λ s. ArePairsOf c.args.pass.now s pairs) (sym c.self.view_is) k in
    let cut = c.ends_of-ends.ensures.cut pairs h in
    let to : c.from-2.result + 1 ≡ c.args.last + 1 = ap (λ n. n + 1) c.from-2.ensures in
    c.total_at.ensures.total pairs (c.ends_of-ends.ensures.looked.pairs shot pairs h)
    ∙ ap total_of (sym (between_is pairs c.args.first c.args.last c.from.result (c.from-2.result + 1)
    c.ends_of-ends.result.low c.ends_of-ends.result.high c.from.ensures to cut)))

pub returns-clause-total : goal.returns-clause-total
returns-clause-total c = λ position o.
    returns-clause-by_pairs c (pairs_of (map_seen c.args.pass.now position))
    (of_pairs c.args.pass.now position c.args.self.now c.know.ensures.lawful o)
