use Rattle.std.proofs.Common.{◌∙◌, ap, arith}
use Rattle.ist_rule.specs.declared.view.View.{View}
use Rattle.ist_rule.proofs.ExchangeLemmas.{known_low}
use Rattle.ist_dcss.proofs.InstallLemmas.{filled}
use Rattle.ist_dcss.proofs.CallingLemmas.{good_held, may_exchange, aimed_yes, aimed_other}
use Rattle.ist_dcss.proofs.installing.install.Goals as goal

-- the change lies at a good base
pub to_word-word-requires : goal.to_word-word-requires
to_word-word-requires g c = record {
  good = good_held _ c.know.ensures.sound c.args.change _
      (filled _ c.args.change g.filling c.requires.1) (omega arith);
}

-- the change may be installed
pub exchange-found-requires : goal.exchange-found-requires
exchange-found-requires g c =
    let can = may_exchange _ c.know.ensures.sound c.args.change g.filling c.requires.1 _ _ _
    c.aim_of-place.ensures.aimed _ c.to_word-word.ensures.value in
    let low = known_low _ _ c.know-2.ensures.sound can.known in
    let known = c.know-2.ensures.words in
    let here = ap (λ (v : View). v.table) c.aim_of-place.ensures.aimed.seen.same ∙ c.requires.0 in
    let same = ap (λ t. t.words) here in (here, (omega arith, can))

-- if the slot held the word, the change is installed
pub returns-then-found-from-clause-yes : goal.returns-then-found-from-clause-yes
returns-then-found-from-clause-yes g c _ =
    aimed_yes _ c.args.change g.filling c.requires.1 _ _ _ c.aim_of-place.ensures.aimed _
    c.to_word-word.ensures.value _ (c.exchange-found.ensures.exchanged.0 c.if-found-from.true)

-- if it held another word, that word is returned
pub returns-else-found-from-clause-other : goal.returns-else-found-from-clause-other
returns-else-found-from-clause-other g c word is =
    aimed_other _ c.args.change g.filling c.requires.1 _ _ _ c.aim_of-place.ensures.aimed _ _
    (c.exchange-found.ensures.exchanged.1 c.if-found-from.false) c.if-found-from.false word is
