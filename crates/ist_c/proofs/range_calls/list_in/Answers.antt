-- A pass has listed this; a handle of something else is as before.
use Rattle.std.proofs.Common.{inl, inr, refl, rules}
use Rattle.ist_c.specs.Reads.{none_lists}
use Rattle.ist_c.proofs.ReadLemmas.{read_range}
use Rattle.ist_c.proofs.range_calls.list_in.Goals as goal

pub returns-then-is_empty : goal.returns-then-is_empty
returns-then-is_empty c = record {
  lists = none_lists c.args.held.now c.args.first c.args.last c.args.room.now c.args.piece.now
      (inl (search rules));
}

pub returns-in-Pass : goal.returns-in-Pass
returns-in-Pass c = let e = c.read_piece.ensures in record {
  lists = read_range c.args.held.now c.in-Pass.pass _ c.args.first c.args.last
      c.args.room.now c.read_piece.new.room c.args.piece.now c.read_piece.result c.in-Pass.is e.room (record {
        read = record { same_tree = refl; read = e.read };
        within = e.within;
        pairs = e.pairs;
      });
}

pub returns-in_default : goal.returns-in_default
returns-in_default c = record {
  lists = none_lists c.args.held.now c.args.first c.args.last c.args.room.now c.args.piece.now
      (inr c.in_default.not-Pass);
}
