use Rattle.std.proofs.Common.{arith, length}
use Rattle.std.proofs.Math.ListN.{length-set}
use Rattle.ist_image.proofs.PlacingSizeLemmas.{none_end, one_end}
use Rattle.ist_image.proofs.PlacedLemmas.{leaf_set, leaf_room, nothing_set}
use Rattle.ist_image.proofs.laying.put_few.Goals as goal

-- the two words of a pair
pub bounds-words-base : goal.bounds-words-base
bounds-words-base c =
    let room = leaf_room c.args.base (length c.args.pairs.now) (length c.args.words.now)
    c.in-len1-up.len_at_least c.requires.few c.requires.room in
    omega arith

pub bounds-words-base-in-len1-up : goal.bounds-words-base-in-len1-up
bounds-words-base-in-len1-up c =
    let room = leaf_room c.args.base (length c.args.pairs.now) (length c.args.words.now)
    c.in-len1-up.len_at_least c.requires.few c.requires.room in
    simp length-set (omega arith)

pub returns-in-empty-clause-exact : goal.returns-in-empty-clause-exact
returns-in-empty-clause-exact c = nothing_set c.args.words.now c.args.base c.args.pairs.now c.in-empty.len_below

pub returns-in-empty-clause-end : goal.returns-in-empty-clause-end
returns-in-empty-clause-end c = none_end c.args.base (length c.args.pairs.now) c.in-empty.len_below

pub returns-in-len1-up-clause-exact : goal.returns-in-len1-up-clause-exact
returns-in-len1-up-clause-exact c = let least = c.in-len1-up.len_at_least in
    let few = c.requires.few in
    leaf_set c.args.words.now c.args.base c.args.pairs.now _ (omega arith)

pub returns-in-len1-up-clause-end : goal.returns-in-len1-up-clause-end
returns-in-len1-up-clause-end c =
    one_end c.args.base (length c.args.pairs.now) c.in-len1-up.len_at_least c.requires.few
