use Rattle.std.proofs.Common.{rules, ◌≡◌, ◌≤◌, ◌∙◌, length, ap}
use Rattle.ist_rule.specs.RuleTerms.{opened_view}
use Rattle.ist_tree.specs.CallTerms.{words_for}
use Rattle.ist_tree.proofs.OpeningLemmas.{new_tree}
use Rattle.ist_tree.proofs.trees.Tree.open_over.Goals as goal

-- the tree is a new one of the pairs, of which the table has a copy
pub returns-clause-new : goal.returns-clause-new
returns-clause-new c = let t = c.in_ok-table in
    let kept : c.in_ok-kept.kept.items ≡ c.args.pairs.now = search rules in
    let size : length c.words.result.now ≡ c.args.words = search rules in
    let room : words_for c.args.pairs.now ≤ c.args.words = search rules in
    new_tree t.ensures.first c.args.words c.args.pairs.now t.table t.token room
    (t.ensures.start ∙ kept) (t.ensures.words ∙ size)
    (t.ensures.token ∙ ap (λ ps. opened_view t.table.table ps (length c.words.result.now)) kept
    ∙ ap (opened_view t.table.table c.args.pairs.now) size)
