use Rattle.std.proofs.Common.{◌∙◌, map, sym, ap, subst}
use Rattle.std.specs.List.Sorted.{IsStrictlyIncreasing}
use Rattle.ist_rest.specs.RestingWords.{HoldPairs}
use Rattle.ist_tree.specs.CallTerms.{TreeFace}
use Rattle.ist_map.proofs.RunLemmas.{holds_first}
use Rattle.ist_map.proofs.running.Map.open.Goals as goal

-- no pass was made, so that the words hold the opening pairs
pub returns-clause-pairs : goal.returns-clause-pairs
returns-clause-pairs c = let new = c.in_ok-tree.ensures.new.1 in
    let same = ap (λ (t : TreeFace). t.start) new.same_tree ∙ new.start_is in
    subst (HoldPairs c.close.result) same
    (holds_first c.in_ok-tree.maker c.close.result c.close.ensures.stands new.made
    (subst (λ ps. IsStrictlyIncreasing (map (λ pair. pair.key) ps)) (sym same)
    c.requires.rising))
