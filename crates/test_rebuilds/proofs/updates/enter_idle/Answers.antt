use Rattle.std.proofs.Common.{rules}
use Rattle.ist_tree.proofs.TokenLemmas.{new_pass}
use Rattle.test_rebuilds.proofs.updates.enter_idle.Goals as goal

-- it holds no row
pub returns-clause-pass : goal.returns-clause-pass
returns-clause-pass c =
    (new_pass c.enter.result c.enter.ensures.caller.0 c.enter.ensures.holds_none c.enter.ensures.in_none, search rules)
