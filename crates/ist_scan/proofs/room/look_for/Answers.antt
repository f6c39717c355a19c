-- The words that are left are compared with those that are asked for.
use Rattle.std.proofs.Common.{refl, ap, sym, ◌∙◌, ◌≡◌, ◌+◌, arith}
use Rattle.ist_core.specs.LogTerms.{spent}
use Rattle.ist_tree.specs.CallTerms.{TreeFace}
use Rattle.ist_scan.proofs.RoomLemmas.{had_room, had_no_room}
use Rattle.ist_scan.proofs.room.look_for.Goals as goal

pub returns-then-left-words-clause-full : goal.returns-then-left-words-clause-full
returns-then-left-words-clause-full c = let m = c.room-left.new.pass in
    let all = c.words-all.ensures.value ∙ sym (ap (λ (t : TreeFace). t.words) c.requires.same_tree) in
    let same = ap (λ (t : TreeFace). t.words) c.room-left.ensures.seen.tree in
    let sum : spent m.tree.start m.seen + c.room-left.result ≡ m.tree.words = c.room-left.ensures.left in
    had_no_room c.args.pass.now m c.room-left.result c.args.words _ c.room-left.ensures.seen
    c.room-left.ensures.left c.room-left.ensures.step c.room-left.ensures.none c.if-left-words.true
    (omega arith) refl all

pub returns-clause-room : goal.returns-clause-room
returns-clause-room c = let few = c.if-left-words.false in
    had_room c.args.pass.now c.room-left.new.pass c.room-left.result c.args.words
    c.room-left.ensures.seen c.room-left.ensures.left c.room-left.ensures.step (omega arith)
