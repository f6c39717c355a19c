use Rattle.std.proofs.Common.{◌+◌, ap, ◌∙◌, arith, rules}
use Rattle.ist_core.specs.WordTerms.{ref_of}
use Rattle.ist_core.proofs.AllWordLemmas.{ref_of-word_of}
use Rattle.test_rebuilds.specs.Races.{HasLaid}
use Rattle.test_rebuilds.proofs.RaceLemmas.{may_build, has_laid, has_built}
use Rattle.test_rebuilds.proofs.ReadyLemmas.{laid_above, laid_low}
use Rattle.test_rebuilds.proofs.races.build.Goals as goal
use Rattle.test_rebuilds.proofs.races.build.Goals.{After-know-2}

pub build_part-requires-clause-share : goal.build_part-requires-clause-share
build_part-requires-clause-share c = may_build _ _ _ _ c.if-marked-ne2.false c.requires.marked

-- what was built is a root for it
laid : (c : After-know-2) → HasLaid c.build_part.new.who.token.view c.build_part.new.who.number
    c.args.rebuild c.to_word-word.result
laid c = has_laid c.args.who.now c.build_part.new.who c.args.rebuild c.args.marked.target _ _ _
    c.if-marked-ne2.false c.know.ensures.sound c.requires.marked c.requires.ready.0.caller.mine
    c.build_part.ensures.number c.build_part.ensures.went c.in-Ok.ensures.laid
    (ap ref_of c.to_word-word.ensures.value ∙ ref_of-word_of _ c.in-Ok.ensures.good)

-- the rebuild lies within the table
pub load-stood-requires-clause-within : goal.load-stood-requires-clause-within
load-stood-requires-clause-within c =
    let low = laid_low _ _ _ _ c.know-2.ensures.sound
    (laid (goal.at.load-stood-requires-clause-within c).After-know-2) in
    let e = ap (λ v. v.table.words) c.build_part.ensures.went.same ∙ ap (λ t. t.words) c.requires.ready.1 in
    omega (arith, c.from.ensures, c.know-2.ensures.words)

pub load-stood-requires-clause-no_walk : goal.load-stood-requires-clause-no_walk
load-stood-requires-clause-no_walk c first =
    let at = (goal.at.load-stood-requires-clause-no_walk c).After-know-2 in
    absurd (omega (arith, c.from.ensures, laid_above _ _ _ _ c.know-2.ensures.sound (laid at)))

-- and it has no root
pub returns : goal.returns
returns c = record {
  built = (
    has_built _ c.load-stood.new.token.view _ c.args.rebuild (c.from.result + 3) _ _
        c.know-2.ensures.sound (omega (arith, c.from.ensures)) c.load-stood.ensures.looked
        (c.if-stood-to_word.false ∙ c.to_word.ensures.value) (laid (goal.at.returns c).After-know-2),
    search rules,
  );
}
