use Rattle.std.proofs.Common.{sym, arith, ◌-◌}
use Rattle.ist_math.proofs.ChildLemmas.{child_count_is}
use Rattle.ist_rest.specs.WordRows.{row_keys}
use Rattle.ist_rest.proofs.WordRowLemmas.{row_lengths, first_below_last}
use Rattle.ist_rest.proofs.children.child_for.Goals as goal

-- the first of two keys or more is below the last
pub guess-near-requires-clause-rising : goal.guess-near-requires-clause-rising
guess-near-requires-clause-rising g c = λ h. let words = g.W.WordList.list c.args.words.now in
    let within = c.requires.row.within.below_next in let two = c.requires.row.degree in
    let long = (row_lengths words c.args.base (omega arith) (omega arith)).0 in
    first_below_last (row_keys words c.args.base) (c.degree_at-degree.result - 2)
    c.key_at-first.result c.key_at-last.result
    c.requires.row.keys (omega arith) (omega arith) c.key_at-first.ensures.value
    c.key_at-last.ensures.value

-- the walk down ends where the keys turn from at most the key to above it
pub returns-clause-value : goal.returns-clause-value
returns-clause-value g c = let words = g.W.WordList.list c.args.words.now in
    let within = c.requires.row.within.below_next in let two = c.requires.row.degree in
    let long = (row_lengths words c.args.base (omega arith) (omega arith)).0 in
    sym (child_count_is (row_keys words c.args.base) c.args.key c.walk_down.result
    c.requires.row.keys
    (omega arith) (λ l. c.walk_down.ensures.above (omega arith)) c.walk_down.ensures.below)
