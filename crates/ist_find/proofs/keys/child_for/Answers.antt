use Rattle.ist_find.proofs.KeyLemmas.{few_counted}
use Rattle.ist_find.proofs.keys.child_for.Goals as goal

-- each key of a short row was loaded
pub returns-then-count-le-FEW_KEYS : goal.returns-then-count-le-FEW_KEYS
returns-then-count-le-FEW_KEYS c = let e = c.count_through-value.ensures in record {
  finds = few_counted _ _ c.args.node c.args.key c.args.count _ e.seen e.loads
      c.if-count-le-FEW_KEYS.true c.requires.count e.value;
}
