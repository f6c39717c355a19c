use Rattle.std.proofs.Common.{sym, subst}
use Rattle.ist_core.specs.LogTerms.{bases_of}
use Rattle.ist_rule.specs.RuleTerms.{StoredAll}
use Rattle.ist_rows.specs.RowTerms.{AreBasesOf, spares_of}
use Rattle.ist_updates.specs.Changing.{fresh_rows, kinds_of}
use Rattle.ist_updates.proofs.PairLemmas.{pair_stored}
use Rattle.ist_updates.proofs.filling.fill_fresh.Goals as goal

-- the words of both rows are stored
pub returns-in-Pair-clause-stored : goal.returns-in-Pair-clause-stored
returns-in-Pair-clause-stored c =
    let rows = subst (λ f. AreBasesOf (kinds_of f) (spares_of c.args.who.now)
    (bases_of (fresh_rows c.args.row f))) c.in-Pair.is c.requires.rows in
    subst (λ f. StoredAll c.fill_pair.new.who.token.view (fresh_rows c.args.row f)) (sym c.in-Pair.is)
    (pair_stored c.args.who.now c.fill_leaf-in-Pair.new.who c.fill_pair.new.who
    c.know.ensures.sound c.requires.caller.0 c.fill_leaf-in-Pair.ensures.caller
    c.fill_leaf-in-Pair.ensures.same c.args.row c.in-Pair.base c.in-Pair.leaf c.in-Pair.other
    c.in-Pair.other_key rows.0 rows.1.0 c.fill_pair.ensures.others c.fill_leaf-in-Pair.ensures.stands
    c.fill_pair.ensures.stands)
