use Rattle.std.proofs.Common.{◌≡◌, ◌+◌, ap, arith}
use Rattle.ist_core.specs.WordTerms.{rebuild_root_offset}
use Rattle.ist_rule.proofs.ExchangeLemmas.{known_low}
use Rattle.test_rebuilds.proofs.RaceLemmas.{may_race}
use Rattle.test_rebuilds.proofs.races.root_or_lose.Goals as goal

-- the exchange may be the Root or the Lose
pub exchange_or_lose-requires : goal.exchange_or_lose-requires
exchange_or_lose-requires c = let from = c.from-place.ensures in
    let at : c.from-place.result + 3 ≡ c.args.rebuild + rebuild_root_offset = omega arith in
    let can = may_race c.args.who.now.token.view c.args.who.now.number c.args.rebuild
    (c.from-place.result + 3) c.args.word c.to_word.result c.know.ensures.sound at
    c.to_word.ensures.value c.requires.built.0 in
    let low = known_low c.args.who.now.token.view _ c.know.ensures.sound can.hit.known in
    let known = c.know.ensures.words in let same = ap (λ t. t.words) c.requires.built.1 in
    (c.requires.built.1, (omega arith, can))
