use Rattle.std.proofs.Common.{◌≡◌, ℕ, Some, subst}
use Rattle.ist_core.specs.WordTerms.{InnerAt}
use Rattle.ist_rest.specs.WordRows.{reads_in}
use Rattle.ist_rest.specs.Walks.{first_visit}
use Rattle.ist_rest.proofs.SettleLemmas.{first_good, good_child, row_here}
use Rattle.ist_rest.proofs.settling.are_settled.Goals as goal

-- the first row is in good shape
pub are_settled_from-requires-clause-row : goal.are_settled_from-requires-clause-row
are_settled_from-requires-clause-row g c = let words = g.W.WordList.list c.args.words.now in
    let reads : ℕ → Type 0 = λ word. reads_in words word ≡ Some (InnerAt c.in-Some.base) in
    let it = first_good words c.requires.hold.0 c.requires.hold.1 in
    let found = subst reads c.word-first.ensures.value c.in-Some.ensures.found in
    row_here words 2 c.in-Some.base (good_child words (first_visit words) c.in-Some.base it.0 found)

pub are_settled_from-requires-clause-shape : goal.are_settled_from-requires-clause-shape
are_settled_from-requires-clause-shape g c = let words = g.W.WordList.list c.args.words.now in
    let reads : ℕ → Type 0 = λ word. reads_in words word ≡ Some (InnerAt c.in-Some.base) in
    let found = subst reads c.word-first.ensures.value c.in-Some.ensures.found in
    (first_good words c.requires.hold.0 c.requires.hold.1).1 c.in-Some.base found
