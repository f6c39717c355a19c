use Rattle.std.proofs.Common.{rules}
use Rattle.ist_find.proofs.LookLemmas.{holds_named}
use Rattle.ist_find.proofs.ChildReadLemmas.{child_read}
use Rattle.ist_find.proofs.children.read_child.Goals as goal

-- the word in the slot names a row
pub past_change-side-requires : goal.past_change-side-requires
past_change-side-requires c = record {
  names = (
    holds_named _ c.know-2.ensures.sound c.args.node c.slot_for-child.result.value.index
        c.slot_for-child.result.value.word c.slot_for-child.ensures.word,
    search rules,
  );
}

-- what it reads as is what the slot reads as
pub returns : goal.returns
returns c = let slot = c.slot_for-child.ensures in let side = c.past_change-side.ensures in
    let reference = c.past_rebuild-reference.ensures in record {
      read = child_read _ _ _ _ c.args.key c.args.node _ _ _ _ _ _ _ c.know.ensures.sound slot.seen
          slot.index slot.word slot.counted slot.anchor_loads slot.row_loads slot.fits side.side
          side.counted side.loads reference.target reference.counted reference.loads;
    }
