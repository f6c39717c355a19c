use Rattle.ist_rule.proofs.EventLemmas.{goes_on_same}
use Rattle.ist_build.proofs.RootFewLemmas.{none_root, one_root, one_key_good}
use Rattle.ist_build.proofs.root.small_root.Goals as goal

pub returns-then-keys-eq0-clause-seen : goal.returns-then-keys-eq0-clause-seen
returns-then-keys-eq0-clause-seen c = goes_on_same _ c.know.ensures.sound

pub returns-then-keys-eq0-clause-root : goal.returns-then-keys-eq0-clause-root
returns-then-keys-eq0-clause-root c =
    none_root _ c.know.ensures.sound c.args.target c.args.keys _ c.requires.finished.0
    c.if-keys-eq0.true c.to_word.ensures.value _

pub to_word-requires-2 : goal.to_word-requires-2
to_word-requires-2 c = record {
  good = one_key_good _ c.know.ensures.sound c.args.target c.args.keys _ c.requires.finished.0
      c.if-keys-eq0.false c.leaf_base-base.ensures.leaf;
}

pub returns-clause-root : goal.returns-clause-root
returns-clause-root c =
    one_root _ _ c.know.ensures.sound c.leaf_base-base.ensures.seen c.args.target c.args.keys _ _
    c.requires.finished.0 c.requires.few c.if-keys-eq0.false c.leaf_base-base.ensures.leaf
    (one_key_good _ c.know.ensures.sound c.args.target c.args.keys _ c.requires.finished.0
    c.if-keys-eq0.false c.leaf_base-base.ensures.leaf)
    c.to_word-2.ensures.value
