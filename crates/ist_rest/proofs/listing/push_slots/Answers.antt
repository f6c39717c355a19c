use Rattle.ist_rest.specs.WordRows.{row_keys}
use Rattle.ist_rest.proofs.WholeLemmas.{ordered}
use Rattle.ist_rest.proofs.listing.push_slots.Goals as goal

-- a greater key has no earlier child
pub push_between-requires-clause-order : goal.push_between-requires-clause-order
push_between-requires-clause-order g c =
    ordered (row_keys (g.W.WordList.list c.args.words.now) c.args.base) c.args.first c.args.last
    c.child_for-from.result c.child_for-to.result c.requires.interval
    c.child_for-from.ensures.value c.child_for-to.ensures.value
