use Rattle.std.proofs.Common.{rules}
use Rattle.ist_rule.proofs.EventLemmas.{goes_on_more}
use Rattle.ist_find.proofs.LookLemmas.{holds_named, look_since}
use Rattle.ist_find.proofs.SpanLemmas.{child_on}
use Rattle.ist_find.proofs.sweeping.read_slot.Goals as goal

-- the word in the slot names a row
pub past_change-side-requires : goal.past_change-side-requires
past_change-side-requires c = record {
  names = (holds_named _ c.know-2.ensures.sound c.args.node c.args.place.index _ c.slot_word-word.ensures.holds, search rules);
}

pub returns-clause-seen : goal.returns-clause-seen
returns-clause-seen c = goes_on_more _ _ _ c.slot_word-word.ensures.seen
    (goes_on_more _ _ _ c.past_change-side.ensures.side.seen
    c.past_rebuild-reference.ensures.target.seen)

-- the loads are a look for each key that has the slot
pub returns-clause-looked : goal.returns-clause-looked
returns-clause-looked c key least low child = let seen = c.slot_word-word.ensures.seen in
    look_since _ _ _ _ key least c.args.node c.args.place.index _ _ _ seen low
    (child_on _ _ seen c.args.node key c.args.place.index child) c.slot_word-word.ensures.holds c.past_change-side.ensures.side
    c.past_rebuild-reference.ensures.target
