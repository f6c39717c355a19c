use Rattle.std.proofs.Common.{arith}
use Rattle.tele_generations.proofs.KeptLemmas.{length-tables}
use Rattle.tele_generations.proofs.shelves.KeptShelf.keep.Goals as goal

-- there are as many tables as places
pub returns-then-len-lt-ROOM-clause-let_go : goal.returns-then-len-lt-ROOM-clause-let_go
returns-then-len-lt-ROOM-clause-let_go g c past =
    let many = length-tables c.args.self.now.places.items c.args.self.now.present in
    absurd (omega (arith, many, past, c.if-len-lt-ROOM.true, c.len.ensures.value))

pub returns-else-len-lt-ROOM-clause-taken : goal.returns-else-len-lt-ROOM-clause-taken
returns-else-len-lt-ROOM-clause-taken g c few =
    let many = length-tables c.args.self.now.places.items c.args.self.now.present in
    absurd (omega (arith, many, few, c.if-len-lt-ROOM.false, c.len.ensures.value))

pub returns-else-len-lt-ROOM-clause-told : goal.returns-else-len-lt-ROOM-clause-told
returns-else-len-lt-ROOM-clause-told g c few told =
    let many = length-tables c.args.self.now.places.items c.args.self.now.present in
    absurd (omega (arith, many, few, c.if-len-lt-ROOM.false, c.len.ensures.value))
