use Rattle.std.proofs.Common.{length, arith}
use Rattle.ist_core.proofs.AllWordLemmas.{ideal_words_is}
use Rattle.tele_run.proofs.trees.open_tree.Goals as goal

-- the pairs take two words each, and there are few words
pub open_over-requires-clause-few : goal.open_over-requires-clause-few
open_over-requires-clause-few c = let are = ideal_words_is (length c.args.pairs.now) in
    let room = c.requires.opens.room in let within = c.requires.opens.within in omega arith

-- the tree that was opened
pub returns-in-Ok : goal.returns-in-Ok
returns-in-Ok c = record { new = c.in-Ok.ensures.new }

pub open_over-requires-clause-rising : goal.open_over-requires-clause-rising
open_over-requires-clause-rising c = c.requires.opens.rising

pub open_over-requires-clause-within : goal.open_over-requires-clause-within
open_over-requires-clause-within c = c.requires.opens.within

-- there is room
pub unreachable-requires : goal.unreachable-requires
unreachable-requires c = let fault = rw c.in-Err-Small.field-0-is at c.in-Err-Small.ensures.fault in
    let room = c.requires.opens.room in omega (arith, fault.0, fault.1, fault.2, room)
