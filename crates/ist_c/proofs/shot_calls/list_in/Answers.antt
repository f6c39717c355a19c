-- A shot was listed; a handle of something else is as before.
use Rattle.std.proofs.Common.{inl, inr, rules}
use Rattle.ist_c.specs.Shots.{lists_no_shot}
use Rattle.ist_c.proofs.CallLemmas.{listed_shot}
use Rattle.ist_c.proofs.shot_calls.list_in.Goals as goal

pub returns-then-is_empty : goal.returns-then-is_empty
returns-then-is_empty c = record {
  lists = lists_no_shot c.args.held.now c.args.first c.args.last c.args.room.now c.args.piece.now
      (inl (search rules));
}

pub returns-in-Shot : goal.returns-in-Shot
returns-in-Shot c = let e = c.list.ensures in record {
  lists = listed_shot c.args.held.now c.in-Shot.shot c.list.new.self c.args.first c.args.last
      c.args.room.now c.list.new.room c.args.piece.now c.list.result c.in-Shot.is e.room (record {
        same_tree = e.tree;
        same_shot = e.shot;
        looked = e.looked;
        within = e.within;
        pairs = e.pairs;
      });
}

pub returns-in_default : goal.returns-in_default
returns-in_default c = record {
  lists = lists_no_shot c.args.held.now c.args.first c.args.last c.args.room.now c.args.piece.now
      (inr c.in_default.not-Shot);
}
