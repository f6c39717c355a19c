use Rattle.std.proofs.Common.{◌∙◌, rules}
use Rattle.ist_build.proofs.BackLemmas.{back_more, shared_back, shared_stopped}
use Rattle.ist_build.proofs.BlockLemmas.{fills_more, fills_none, fills_out, fills_out_more, fills_part}
use Rattle.ist_build.proofs.filling.fill_slot.Goals as goal

pub build_slot-requires-clause-shared : goal.build_slot-requires-clause-shared
build_slot-requires-clause-shared c = shared_back _ _ c.args.shared c.slot_of.ensures.back c.requires.shared

pub put_slot-requires : goal.put_slot-requires
put_slot-requires c =
    record { made = (record { old = c.slot_of.new.who; made = c.in_ok-word.ensures.made }, search rules) }

-- no word is taken until the slot is seen Unset, and then those of its part
pub returns-then-slot_of-to_word-clause-few : goal.returns-then-slot_of-to_word-clause-few
returns-then-slot_of-to_word-clause-few c =
    (fills_none _ _ c.args.shared c.slot_of.ensures.back c.requires.shared c.slot_of.ensures.none).1

pub returns-in_err-word : goal.returns-in_err-word
returns-in_err-word c = let e = c.slot_of.ensures in let f = c.in_err-word.ensures in
    let on = shared_back _ _ c.args.shared e.back c.requires.shared in
    let vacant = e.vacant (c.if-slot_of-to_word.false ∙ c.to_word.ensures.value) in
    let stopped = shared_stopped _ _ c.args.shared _ c.requires.shared e.back _ _ f.full in
    let out = fills_out_more _ _ _ c.args.shared (fills_none _ _ _ e.back c.requires.shared e.none) f.back
    (fills_out _ _ c.args.shared f.back on c.args.i c.requires.within vacant f.few) in
    record { back = back_more _ _ _ e.back f.back; few = search rules; set = search rules; full = search rules }

pub returns : goal.returns
returns c = let e = c.slot_of.ensures in let m = c.in_ok-word.ensures.made in
    let on = shared_back _ _ c.args.shared e.back c.requires.shared in
    let vacant = e.vacant (c.if-slot_of-to_word.false ∙ c.to_word.ensures.value) in
    let put = c.put_slot.ensures.put c.slot_of.new.who m in
    let f = fills_more _ _ _ c.args.shared (fills_none _ _ _ e.back c.requires.shared e.none) put.back
    (fills_part _ _ c.args.shared put.back on c.args.i c.requires.within vacant c.build_slot.new.who m.has_built
    c.in_ok-word.ensures.few c.put_slot.ensures.none put.set).1 in
    record { back = f.0; few = f.1; set = put.set; full = tt }
