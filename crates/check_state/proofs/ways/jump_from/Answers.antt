use Rattle.std.proofs.Common.{sym}
use Rattle.check_state.proofs.WayToRowLemmas.{jumps_to_node, jumps_twice}
use Rattle.check_state.proofs.ways.jump_from.Goals as goal

pub returns-in-None : goal.returns-in-None
returns-in-None c = record {
  exact = λ first log h at slots index row k e.
      jumps_to_node first log slots k c.args.node index row
      (h c.args.node c.args.above.now at).linked e;
}

pub returns-then-first-second : goal.returns-then-first-second
returns-then-first-second c = record {
  exact = λ first log h at slots index row k e.
      jumps_twice first log slots k c.args.node index row c.args.above.now.jump
      c.in-Some.middle.now.jump e (h c.args.node c.args.above.now at).jump
      (h c.args.above.now.jump c.in-Some.middle.now (sym c.in-Some.ensures.value)).jump;
}

pub returns-else-first-second : goal.returns-else-first-second
returns-else-first-second c = record {
  exact = λ first log h at slots index row k e.
      jumps_to_node first log slots k c.args.node index row
      (h c.args.node c.args.above.now at).linked e;
}
