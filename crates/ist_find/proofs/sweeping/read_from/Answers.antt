use Rattle.ist_rule.specs.RuleTerms.{MayWalk}
use Rattle.ist_find.proofs.PlaceLemmas.{at_on, slot_read}
use Rattle.ist_find.proofs.SlotEndLemmas.{slot_within}
use Rattle.std.proofs.Common.{arith, subst, sym, rules}
use Rattle.ist_find.proofs.sweeping.read_from.Goals as goal

-- the slot is the key's still
pub read_slot-reference-requires-clause-node : goal.read_slot-reference-requires-clause-node
read_slot-reference-requires-clause-node c = (
  (at_on _ _ c.know.ensures.sound c.slot_end-to.ensures.seen c.args.node c.args.from _ _
      c.requires.at.0).node_is,
  search rules,
)

pub read_slot-reference-requires-clause-count : goal.read_slot-reference-requires-clause-count
read_slot-reference-requires-clause-count c =
    (at_on _ _ c.know.ensures.sound c.slot_end-to.ensures.seen c.args.node c.args.from _ _
    c.requires.at.0).count_is

pub read_slot-reference-requires-clause-within : goal.read_slot-reference-requires-clause-within
read_slot-reference-requires-clause-within c =
    let within = slot_within c.args.token.now.view c.args.node c.args.from c.args.place.index
    c.requires.at.0.child in
    let long = c.requires.at.0.count_is in omega arith

-- and a walk may begin still, if one is to begin
pub read_slot-reference-requires-clause-top : goal.read_slot-reference-requires-clause-top
read_slot-reference-requires-clause-top c is =
    subst MayWalk (sym (c.slot_end-to.ensures.stays is)) (c.requires.top is)

pub returns : goal.returns
returns c = let end = c.slot_end-to.ensures in let it = c.read_slot-reference.ensures in record {
  read = slot_read _ _ _ end.seen it.seen end.loads it.loads c.args.node c.args.from _
      c.args.last _ _ _ end.ends it.looked it.found;
}
