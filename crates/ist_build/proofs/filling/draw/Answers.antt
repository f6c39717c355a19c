use Rattle.std.proofs.Common.{◌+◌, ap, ◌∙◌, arith}
use Rattle.ist_rule.specs.declared.view.View.{View}
use Rattle.ist_build.proofs.FillLemmas.{may_draw}
use Rattle.ist_build.proofs.PlaceLemmas.{word_there}
use Rattle.ist_build.proofs.filling.draw.Goals as goal

pub load-next-requires : goal.load-next-requires
load-next-requires c = let is = c.requires.shared.is in
    let there = word_there c.know.ensures.sound c.know.ensures.words c.requires.ready.1 _ _
    is.published 4 (c.from-place.result + 4) (omega arith) (omega (arith, c.from-place.ensures)) in
    record { same_table = c.requires.ready.1; within = there.0; no_walk = there.1 }

-- the part that the draw word names may be drawn
pub add-requires : goal.add-requires
add-requires c = let is = c.requires.shared.is in
    let there = word_there c.know.ensures.sound c.know.ensures.words c.requires.ready.1 _ _
    is.published 4 (c.from-place.result + 4) (omega arith) (omega (arith, c.from-place.ensures)) in
    let m = may_draw c.args.who.now c.load-next.new.token c.requires.ready.0 c.know.ensures.sound c.args.shared
    c.requires.shared _ _ (omega (arith, c.from-place.ensures)) c.load-next.ensures.looked in
    let here = ap (λ (v : View). v.table) c.load-next.ensures.looked.view ∙ c.requires.ready.1 in
    (here, (there.0, m.allowed c.if-next-shared.false))

pub returns-then-next-shared : goal.returns-then-next-shared
returns-then-next-shared c =
    let m = may_draw c.args.who.now c.load-next.new.token c.requires.ready.0 c.know.ensures.sound c.args.shared
    c.requires.shared _ _ (omega (arith, c.from-place.ensures)) c.load-next.ensures.looked in
    record { back = m.looked; none = m.idle }

pub returns : goal.returns
returns c =
    let m = may_draw c.args.who.now c.load-next.new.token c.requires.ready.0 c.know.ensures.sound c.args.shared
    c.requires.shared _ _ (omega (arith, c.from-place.ensures)) c.load-next.ensures.looked in
    let l = c.add.ensures.added.logged in
    record { back = m.back c.add.new.token c.add.result l; none = m.none c.add.new.token c.add.result l }
