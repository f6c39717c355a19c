use Rattle.std.proofs.Common.{List, ◌≡◌, ◌+◌, ap, ◌∙◌, subst, sym}
use Rattle.std.proofs.lemmas.Result.{IfOk-weaker}
use Rattle.ist_core.specs.declared.pairs.Pair.{Pair}
use Rattle.ist_core.specs.TreeTerms.{pairs_of, pairs_between}
use Rattle.ist_scan.specs.Shots.{ArePairsOf, map_seen}
use Rattle.ist_scan.proofs.ShotLemmas.{between_is, none_between, looked_not, looked_more, of_pairs}
use Rattle.ist_scan.proofs.shots.Shot.list.Goals as goal

-- there is nothing to list
pub returns-then-first-last : goal.returns-then-first-last
returns-then-first-last c =
    let none : (pairs : List Pair) → c.new.result.items ≡ pairs_between c.args.first c.args.last pairs =
    λ pairs. c.new.ensures.items ∙ sym (none_between pairs c.args.first c.args.last c.if-first-last.true) in
    record {
      looked = looked_not c.args.pass.now;
      by_pairs = λ pairs k. none pairs;
      list = λ position o. none (pairs_of (map_seen c.args.pass.now position));
    }

pub returns-clause-looked : goal.returns-clause-looked
returns-clause-looked c =
    looked_more c.args.pass.now _ _ c.ends_of-ends.ensures.looked c.list_at.ensures.looked

pub returns-clause-by_pairs : goal.returns-clause-by_pairs
returns-clause-by_pairs c =
    IfOk-weaker c.list_at.result _ _ (λ v list pairs k.
    (let h = subst (λ s. ArePairsOf c.args.pass.now s pairs) (sym c.self.view_is) k in
    list pairs (c.ends_of-ends.ensures.looked.pairs c.self.inside.frozen pairs h)
    ∙ sym (between_is pairs c.args.first c.args.last c.from.result (c.from-2.result + 1)
    c.ends_of-ends.result.low c.ends_of-ends.result.high c.from.ensures (ap (λ n. n + 1) c.from-2.ensures)
    (c.ends_of-ends.ensures.cut pairs h))))
    c.list_at.ensures.list

pub returns-clause-list : goal.returns-clause-list
returns-clause-list c =
    IfOk-weaker c.list_at.result _ _ (λ v by position o.
    by (pairs_of (map_seen c.args.pass.now position))
    (of_pairs c.args.pass.now position c.args.self.now c.know.ensures.lawful o))
    (returns-clause-by_pairs c)
