use Rattle.ist_rows.proofs.BlockLemmas.{may_take_all, caller_after_all, taken_after_all}
use Rattle.ist_rows.proofs.block.reserve_block.Goals as goal

-- what the caller holds is fair with the rows
pub take_all-requires : goal.take_all-requires
take_all-requires g c = (
  c.requires.0.1,
  (
    c.requires.0.0.mine,
    (
      may_take_all c.args.who.now g.sizes c.know.ensures.sound c.requires.0.0 c.requires.1.0,
      c.requires.1.1,
    ),
  ),
)

-- the caller is still a caller
pub returns-clause-caller : goal.returns-clause-caller
returns-clause-caller g c =
    caller_after_all c.args.who.now c.take_all.new.token _ _ g.sizes c.take_all.result
    c.requires.0.0 c.requires.1.0 c.take_all.ensures.reserved c.take_all.ensures.none

-- the caller has taken the rows
pub returns-clause-taken : goal.returns-clause-taken
returns-clause-taken g c =
    taken_after_all c.args.who.now c.take_all.new.token g.sizes c.take_all.result
    c.requires.0.0 c.take_all.ensures.reserved
