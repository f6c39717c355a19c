use Rattle.std.proofs.Common.{◌∙◌, rules}
use Rattle.std.proofs.lemmas.List.{length-set}
use Rattle.ist_rule.proofs.EventLemmas.{goes_on_same, goes_on_more}
use Rattle.ist_build.proofs.KeyLemmas.{leaf_after, keys_more, keys_all}
use Rattle.ist_build.proofs.building.load_keys.Goals as goal

pub loop-i-init : goal.loop-i-init
loop-i-init c = (goes_on_same _ c.know.ensures.sound, c.requires.many, tt)

-- each base is a leaf's
pub key_of-requires : goal.key_of-requires
key_of-requires c =
    let it = leaf_after _ _ c.args.leaves.now c.loop-i.i c.requires.leaves.0 c.loop-i-test.true
    c.loop-i.invariant.0 in
    search rules

-- one key more
pub loop-i-preserved : goal.loop-i-preserved
loop-i-preserved c = let i = c.loop-i.invariant in
    let e = c.key_of.ensures in (
      goes_on_more _ _ _ i.0 e.seen,
      length-set _ _ _ ∙ i.1,
      keys_more _ _ _ c.args.leaves.now _ c.loop-i.i c.key_of.result c.requires.leaves.0
          c.loop-i-test.true i.1 i.0 e.seen i.2 e.key,
    )

-- all keys are loaded
pub returns-clause-keys : goal.returns-clause-keys
returns-clause-keys c =
    keys_all _ c.args.leaves.now c.loop-i.keys c.loop-i.i c.loop-i-test.false c.loop-i.invariant.1
    c.loop-i.invariant.2
