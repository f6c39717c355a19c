-- Both passes list the same shot. In each answer `p` is the taker with its note given.
use Rattle.std.proofs.Common.{sym, subst}
use Rattle.ist_tree.specs.CallTerms.{IsFrozenFor}
use Rattle.ist_scan.proofs.CallerLemmas.{told_well, both_alike, both_once}
use Rattle.ist_scan.proofs.ShotLemmas.{frozen_on}
use Rattle.ist_scan.proofs.callers.list_by_both.Goals as goal

pub list-requires-2-clause-frozen : goal.list-requires-2-clause-frozen
list-requires-2-clause-frozen c = let p = c.note-note.new.pass in
    let on = told_well c.take.new.pass p c.note-note.result c.meet.new.pass c.note-note.ensures.value
    c.note-note.ensures.unchanged c.meet.ensures.learnt c.know-2.ensures.lawful in
    frozen_on p c.meet.new.pass on c.in_ok-shot.shot
    (subst (λ t. IsFrozenFor t c.in_ok-shot.shot) (sym c.note-note.ensures.unchanged)
    c.in_ok-shot.ensures.frozen)

pub returns-clause-same : goal.returns-clause-same
returns-clause-same c =
    both_alike c.args.taker.now c.take.new.pass c.note-note.new.pass c.list.new.pass
    c.note-note.result c.meet.new.pass c.in_ok-shot.shot c.in_ok-shot.ensures.taken
    c.note-note.ensures.value c.note-note.ensures.unchanged c.know.ensures.lawful
    c.in_ok-mine.ensures.looked c.know-3.ensures.lawful c.meet.ensures.learnt
    c.know-2.ensures.lawful c.args.first c.args.last c.in_ok-mine.mine.items
    c.in_ok-others.others.items c.in_ok-mine.ensures.list c.in_ok-others.ensures.by_pairs

pub returns-clause-once : goal.returns-clause-once
returns-clause-once c =
    both_once c.args.taker.now c.take.new.pass c.note-note.new.pass c.list.new.pass
    c.note-note.result c.meet.new.pass c.in_ok-shot.shot c.in_ok-shot.ensures.taken
    c.note-note.ensures.value c.note-note.ensures.unchanged c.know.ensures.lawful
    c.in_ok-mine.ensures.looked c.know-3.ensures.lawful c.meet.ensures.learnt
    c.know-2.ensures.lawful c.args.first c.args.last c.in_ok-mine.mine.items
    c.in_ok-others.others.items c.in_ok-mine.ensures.list c.in_ok-others.ensures.by_pairs
