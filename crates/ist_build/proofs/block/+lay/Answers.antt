use borrow.Author.Gap.{counting}
use borrow.Author.Rules.{rules}
use Rattle.std.proofs.Common.{length, ap, ◌∙◌, arith}
use Rattle.ist_rule.specs.RuleTerms.{now}
use Rattle.ist_rows.specs.declared.callers.Caller.{Caller}
use Rattle.ist_build.proofs.BuildingLemmas.{held_good}
use Rattle.ist_build.proofs.StoringLemmas.{small_end, block_first, laying_opened}
use Rattle.ist_build.proofs.RootBuiltLemmas.{is_part, lay_asked, laying_more}
use Rattle.ist_build.proofs.HeldMoreLemmas.{block_end, all_laid_below}
use Rattle.ist_build.proofs.block.+lay.Goals as goal

-- ---- few leaves

pub returns-then-leaves-lt2-clause-next : goal.returns-then-leaves-lt2-clause-next
returns-then-leaves-lt2-clause-next t c = small_end _ _ c.if-leaves-lt2.true

pub returns-then-leaves-lt2-clause-laid : goal.returns-then-leaves-lt2-clause-laid
returns-then-leaves-lt2-clause-laid t c = c.small_word.ensures.laid _ _

-- ---- the row

pub open_row-requires-clause-held : goal.open_row-requires-clause-held
open_row-requires-clause-held t c =
    rw c.degree-degree.ensures.value (block_first (now c.args.who.now.token.view) c.args.who.now.number
    c.args.next.now (length c.args.leaves.now) c.if-leaves-lt2.false c.requires.held).0

pub loop-j-init : goal.loop-j-init
loop-j-init t c =
    laying_opened _ _ _ _ _ c.know.ensures.sound c.if-leaves-lt2.false c.degree-degree.ensures.value
    c.requires.held c.requires.fresh c.open_row.ensures.stored c.open_row.ensures.caller c.open_row.ensures.sound

-- ---- a part

-- the rows, leaves and keys of a part are what its laying asks for
pub lay-word-requires : goal.lay-word-requires
lay-word-requires t c = let m = c.loop-j.invariant in let p = c.part-part.ensures in
    let a = lay_asked _ _ _ _ _ _ _ _ _ _ m (is_part _ _ _ _ _ c.args.leaves.now c.args.keys.now
    c.loop-j-test.true c.degree-degree.ensures.value p.start p.len p.some) c.requires.fresh
    c.requires.leaves c.requires.keys c.requires.many in
    let few = a.long in
    let here = ap (λ (x : Caller). x.token.view.table) m.written.same ∙ c.requires.caller.1 in
    let caller = m.written.caller in (
      search (rules, counting),
      ((caller, here), (a.held, (a.fresh, (a.leaves, (a.keys, (a.many, (omega arith, m.low))))))),
    )

-- one part more is laid
pub loop-j-preserved : goal.loop-j-preserved
loop-j-preserved t c = let e = c.lay-word.ensures in let s = c.set_part.ensures in
    let p = c.part-part.ensures in laying_more _ _ _ _ _ _ _ _ _ _ _ _ _ _ c.loop-j.invariant
    (is_part _ _ _ _ _ c.args.leaves.now c.args.keys.now c.loop-j-test.true c.degree-degree.ensures.value
    p.start p.len p.some) c.requires.keys c.degree-degree.ensures.value c.loop-j-test.true e.written
    e.next e.low e.laid s.stored s.caller s.sound

-- ---- the whole

pub to_word-requires : goal.to_word-requires
to_word-requires t c =
    let m = c.loop-j.invariant in record { good = held_good _ m.written.sound _ _ _ m.held }

pub returns-clause-next : goal.returns-clause-next
returns-clause-next t c =
    c.loop-j.invariant.next_is ∙ block_end _ _ _ _ c.if-leaves-lt2.false c.degree-degree.ensures.value
    (omega (arith, c.loop-j.auto.j-end, c.loop-j-test.false))

pub returns-clause-laid : goal.returns-clause-laid
returns-clause-laid t c =
    all_laid_below _ _ _ _ _ _ _ c.loop-j.invariant c.degree-degree.ensures.value
    (omega (arith, c.loop-j.auto.j-end, c.loop-j-test.false)) c.if-leaves-lt2.false _ c.to_word.ensures.value
