use Rattle.std.proofs.Common.{sym, subst, arith}
use Rattle.ist_core.specs.WordTerms.{share_from_is}
use Rattle.ist_rows.specs.RowTerms.{HasTakenFewIn}
use Rattle.ist_build.proofs.FewLemmas.{root_few, root_many}
use Rattle.ist_build.proofs.RootBuiltLemmas.{whole_share, ok_whole, ok_top}
use Rattle.ist_build.proofs.root.build_root.Goals as goal

pub build_share-requires-clause-share : goal.build_share-requires-clause-share
build_share-requires-clause-share c =
    whole_share _ c.args.target c.args.keys c.requires.target (omega (arith, share_from_is))

pub returns-then-keys-lt-SHARE_FROM-clause-laid : goal.returns-then-keys-lt-SHARE_FROM-clause-laid
returns-then-keys-lt-SHARE_FROM-clause-laid c =
    ok_whole c.args.who.now c.build_share.new.who c.args.target c.args.keys c.know.ensures.sound
    c.build_share.ensures.number c.build_share.ensures.built c.requires.target
    (omega (arith, share_from_is)) c.requires.several c.build_share.result c.build_share.ensures.laid
    c.build_share.ensures.at

pub build_top-requires-clause-many : goal.build_top-requires-clause-many
build_top-requires-clause-many c = omega (arith, share_from_is)

pub returns-clause-laid : goal.returns-clause-laid
returns-clause-laid c =
    ok_top c.args.who.now c.build_top.new.who c.args.target c.args.keys c.know.ensures.sound
    c.build_top.ensures.number c.build_top.ensures.built c.requires.target (omega (arith, share_from_is))
    c.build_top.result c.build_top.ensures.laid c.build_top.ensures.sizes

-- few words were taken
pub returns-then-keys-lt-SHARE_FROM-clause-few : goal.returns-then-keys-lt-SHARE_FROM-clause-few
returns-then-keys-lt-SHARE_FROM-clause-few c =
    subst (λ n. HasTakenFewIn c.build_share.result n 0 c.args.who.now c.build_share.new.who)
    (sym (root_few c.args.keys (omega (arith, share_from_is)))) (c.build_share.ensures.few c.requires.several)

pub returns-clause-few : goal.returns-clause-few
returns-clause-few c =
    subst (λ n. HasTakenFewIn c.build_top.result n 0 c.args.who.now c.build_top.new.who)
    (sym (root_many c.args.keys (omega (arith, share_from_is)))) c.build_top.ensures.few
