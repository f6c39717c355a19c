-- A pass has counted the words that are left; a handle of something else is as before.
use Rattle.std.proofs.Common.{refl}
use Rattle.ist_c.specs.Reads.{none_counts}
use Rattle.ist_c.proofs.ReadLemmas.{counted_room}
use Rattle.ist_c.proofs.room_calls.room_in.Goals as goal

pub returns-in-Pass : goal.returns-in-Pass
returns-in-Pass c = let e = c.room.ensures in record {
  counts = counted_room c.args.held.now c.in-Pass.pass _ c.args.words.now c.room.result
      c.in-Pass.is (record {
        read = record {
          same_tree = refl;
          read = record { seen = e.seen; calls = e.calls; stamp = e.stamp; refused = e.refused };
        };
        none = e.none;
        step = e.step;
        left = e.left;
      });
}

pub returns-in_default : goal.returns-in_default
returns-in_default c = record { counts = none_counts c.args.held.now c.args.words.now c.in_default.not-Pass }
