-- The first free word is read in no call.
use Rattle.std.proofs.Common.{◌≡◌, ◌-◌, ap, sym, ◌∙◌, rules}
use Rattle.ist_tree.proofs.GoingLemmas.{words_are}
use Rattle.ist_tree.proofs.RoomLemmas.{RoomEnds, room_ends, room_sum}
use Rattle.ist_tree.proofs.trees.Tree.room.Goals as goal
use Rattle.ist_tree.proofs.trees.Tree.room.Goals.{After-word_count}

-- the pass's view has as many words as the table
all_words : (c : After-word_count) → c.glance-next.new.token.view.words ≡ c.word_count.result
all_words c = ap (λ y. y.words) c.glance-next.ensures.glanced.turned.view
    ∙ sym (words_are c.pass.inside.caller _ _ _ _ c.pass.view_is c.requires.same_tree c.self.view_is)
    ∙ sym c.word_count.ensures.value

pub overflow_sub-result : goal.overflow_sub-result
overflow_sub-result c = (room_sum _ _ _ _ c.glance-next.ensures.glanced (all_words c)).0

-- what the load results in
ends : (c : After-word_count) → RoomEnds c.args.pass.now c.pass.inside.caller c.pass.inside.refused
    c.glance-next.new.token (c.word_count.result - c.glance-next.result)
ends c = room_ends _ _ _ c.pass.invariant c.know.ensures.sound _ _ c.glance-next.ensures.glanced
    (room_sum _ _ _ _ c.glance-next.ensures.glanced (all_words c)).1 _ c.pass.view_is

pub invariant_of-pass : goal.invariant_of-pass
invariant_of-pass c = (ends c).pass

pub returns : goal.returns
returns c = let e = ends c in let refused = ap (λ p. p.refused) c.pass.view_is in search rules
