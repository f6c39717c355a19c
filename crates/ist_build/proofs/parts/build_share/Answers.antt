use Rattle.ist_build.proofs.ShareLemmas.{share_due, share_keys, share_few, at_share_ok}
use Rattle.ist_build.proofs.parts.build_share.Goals as goal

pub build_few-requires-clause-due : goal.build_few-requires-clause-due
build_few-requires-clause-due c =
    share_due c.args.who.now c.args.target c.args.start c.args.len c.requires.refused
    c.requires.share

pub build_few-requires-clause-finished : goal.build_few-requires-clause-finished
build_few-requires-clause-finished c =
    share_keys _ c.args.target c.args.start c.args.len c.requires.share

pub returns-then-len-clause-at : goal.returns-then-len-clause-at
returns-then-len-clause-at c =
    at_share_ok c.args.who.now c.build_few.new.who c.args.len c.args.target c.args.start
    c.build_few.result c.requires.refused c.requires.share c.build_few.ensures.taken

pub build_many-requires-clause-due : goal.build_many-requires-clause-due
build_many-requires-clause-due c =
    share_due c.args.who.now c.args.target c.args.start c.args.len c.requires.refused
    c.requires.share

pub build_many-requires-clause-finished : goal.build_many-requires-clause-finished
build_many-requires-clause-finished c =
    share_keys _ c.args.target c.args.start c.args.len c.requires.share

pub build_many-requires-clause-few : goal.build_many-requires-clause-few
build_many-requires-clause-few c =
    share_few _ c.know.ensures.sound c.args.target c.args.start c.args.len c.requires.share

pub returns-clause-at : goal.returns-clause-at
returns-clause-at c =
    at_share_ok c.args.who.now c.build_many.new.who c.args.len c.args.target c.args.start
    c.build_many.result c.requires.refused c.requires.share c.build_many.ensures.taken
