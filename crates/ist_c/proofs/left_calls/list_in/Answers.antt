-- What is left is listed; by a handle of something else nothing is.
use Rattle.std.proofs.Common.{◌∙◌, arith, rules}
use Rattle.ist_c.specs.Listing.{none_left}
use Rattle.ist_c.proofs.ReadLemmas.{listed_left, none_written, rest_written}
use Rattle.ist_c.proofs.left_calls.list_in.Goals as goal

pub returns-then-from-len : goal.returns-then-from-len
returns-then-from-len c = record {
  lists = listed_left c.args.held.now c.in-Left.left c.args.from c.len.result c.args.room.now
      c.write_pairs.new.room c.args.count.now c.in-Left.is (search rules)
      (c.write_pairs.ensures.written ∙ rest_written c.deref.result.now c.in-Left.left.pairs.items
      c.args.room.now c.args.from c.deref.ensures.value);
}

pub returns-else-from-len : goal.returns-else-from-len
returns-else-from-len c = let past = c.if-from-len.false in let many = c.len-in-Left.ensures in
    record {
      lists = listed_left c.args.held.now c.in-Left.left c.args.from c.len.result c.args.room.now
          c.args.room.now c.args.count.now c.in-Left.is (search rules)
          (none_written c.in-Left.left.pairs.items c.args.room.now c.args.from (omega arith));
    }

pub returns-in_default : goal.returns-in_default
returns-in_default c =
    record { lists = none_left c.args.held.now c.args.from c.args.room.now c.args.count.now c.in_default.not-Left }
