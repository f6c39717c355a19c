use Rattle.std.proofs.Common.{arith}
use Rattle.ist_rows.specs.declared.kinds.Kind.TheVariants.{Leaf}
use Rattle.test_parts.proofs.callers.reserve_and_fill.Goals as goal

-- the caller holds its leaf row
pub fill-requires-clause-held : goal.fill-requires-clause-held
fill-requires-clause-held c =
    let held = c.reserve-change.ensures.caller.0.rows Leaf c.in-Some.base c.in-Some.is in
    record { size = 2; held = held; within = omega arith }
