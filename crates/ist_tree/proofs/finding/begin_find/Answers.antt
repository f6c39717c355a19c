-- The views of a find, from its beginning to the end of its search.
use Rattle.ist_tree.proofs.finding.begin_find.Goals as goal

pub returns : goal.returns
returns c = record {
  found = record {
    sound = c.know.ensures.sound;
    began = c.begin_call.new.token.view;
    begun = c.begin_call.ensures.begun;
    seen = c.find_from_anchor.ensures.seen;
    position = c.find_from_anchor.ensures.value;
    slot = c.find_from_anchor.ensures.found;
    few = c.find_from_anchor.ensures.loads;
  };
}
