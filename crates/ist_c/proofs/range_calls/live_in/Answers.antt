-- A pass has listed this in one walk, or had no memory for it; a handle of something else is as before.
use Rattle.std.proofs.Common.{refl, rules}
use Rattle.ist_c.specs.Reads.{live_none}
use Rattle.ist_c.proofs.ReadLemmas.{listed_live, listed_none}
use Rattle.ist_c.proofs.range_calls.live_in.Goals as goal

pub returns-in-Ok : goal.returns-in-Ok
returns-in-Ok c = let e = c.in-Ok.ensures in record {
  lists = listed_live c.args.held.now c.in-Pass.pass _ c.args.first c.args.last c.in-Ok.found.items
      c.args.room.now c.write_pairs.new.room c.args.count.now c.len.result c.in-Pass.is (record {
        read = record { same_tree = refl; read = c.list_live.ensures.read };
        live = e.live;
        in_turn = e.in_turn;
      }) (search rules) (search rules);
}

pub returns-in-Err : goal.returns-in-Err
returns-in-Err c = record {
  lists = listed_none c.args.held.now c.in-Pass.pass _ c.args.first c.args.last c.args.room.now
      c.args.count.now c.in-Pass.is (record { same_tree = refl; read = c.list_live.ensures.read });
}

pub returns-in_default : goal.returns-in_default
returns-in_default c = record {
  lists = live_none c.args.held.now c.args.first c.args.last c.args.room.now c.args.count.now
      c.in_default.not-Pass;
}
