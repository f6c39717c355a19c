use Rattle.std.proofs.Common.{IfSome, refl, sym, subst, rules}
use Rattle.ist_rows.specs.RowTerms.{HasLost}
use Rattle.ist_rows.proofs.DropLemmas.{may_drop, has_lost, caller_dropped}
use Rattle.ist_rows.proofs.dropping.drop_pair.Goals as goal

-- the row may be lost at the load
pub load_past-requires-clause-may_load : goal.load_past-requires-clause-may_load
load_past-requires-clause-may_load c =
    may_drop c.args.who.now _ _ c.requires.caller.0 c.requires.below c.in-Some.is

-- the row is lost
loses : (c : goal.After-who-1)
    → HasLost c.args.who.now.token.view c.args.who.now.number c.in-Some.pair c.args.node
    c.load_past.new.token.view
loses c = has_lost c.args.who.now.token.view c.args.who.now.number c.in-Some.pair c.args.node _
    c.load_past.result c.load_past.new.token.view c.requires.caller.0.mine refl c.load_past.ensures.seen

pub returns-in-Some-clause-caller : goal.returns-in-Some-clause-caller
returns-in-Some-clause-caller c =
    let l = loses c in (
      caller_dropped c.args.who.now c.load_past.new.token c.in-Some.pair _ l.0 c.requires.caller.0
          c.in-Some.is l.1,
      search rules,
    )

pub returns-in-Some-clause-lost : goal.returns-in-Some-clause-lost
returns-in-Some-clause-lost c =
    subst (λ o. IfSome o (λ pair. HasLost c.args.who.now.token.view c.args.who.now.number pair
    c.args.node c.load_past.new.token.view)) (sym c.in-Some.is) (loses c)
