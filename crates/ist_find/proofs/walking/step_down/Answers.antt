use Rattle.ist_find.proofs.LookLemmas.{come_node, come_later, holds_named, look_comes, step_up, word_down, word_is_set}
use Rattle.ist_find.proofs.walking.step_down.Goals as goal

-- the search has reached a node
pub slot_for-child-requires-clause-node : goal.slot_for-child-requires-clause-node
slot_for-child-requires-clause-node c = let came = c.requires.come in
    (come_node _ c.know.ensures.sound c.args.key came.1.last c.args.node came.0 came.1.comes, c.requires.same_table)

pub returns : goal.returns
returns c = let came = c.requires.come in let g = c.slot_for-child.ensures.seen in
    let index = c.slot_for-child.ensures.index in let word = c.slot_for-child.ensures.word in
    record {
      index = index;
      word = word;
      seen = g;
      named = holds_named _ g.sound c.args.node _ _ word;
      set = word_is_set _ _ g c.args.key c.args.node _ _ came.0 came.1 index word;
      stays = λ rows h. come_later _ _ g c.args.key c.args.node rows h;
      down = λ rows child h is. look_comes _ c.args.key c.args.node _ rows child
          (word_down _ _ g c.args.key c.args.node _ _ child rows h index word is);
      above = λ child is. step_up _ _ g c.args.key c.args.node _ _ child came.0 came.1 index word is;
    }
