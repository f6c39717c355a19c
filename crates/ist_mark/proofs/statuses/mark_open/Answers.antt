use Rattle.std.proofs.Common.{◌+◌, ap, arith}
use Rattle.ist_rule.proofs.ExchangeLemmas.{known_low, exchanged_keeps}
use Rattle.ist_mark.proofs.MarkLemmas.{may_mark, mark_told}
use Rattle.ist_mark.proofs.statuses.mark_open.Goals as goal

-- the node may be marked
pub exchange-stood-requires : goal.exchange-stood-requires
exchange-stood-requires c =
    let can = may_mark c.args.token.now.view c.know.ensures.sound c.args.node c.requires.may_mark.0
    (c.from.result + 0) _ _ (omega (arith, c.from.ensures)) c.to_word.ensures.value
    c.to_word-2.ensures.value in
    let low = known_low c.args.token.now.view _ c.know.ensures.sound can.known in
    let known = c.know.ensures.words in let same = ap (λ t. t.words) c.requires.may_mark.1 in
    (c.requires.may_mark.1, (omega arith, can))

-- what is known after the exchange
pub returns : goal.returns
returns c = let e = c.exchange-stood.ensures in
    let told = mark_told _ c.know.ensures.sound c.args.node c.requires.may_mark.0 (c.from.result + 0)
    _ _ _ (omega (arith, c.from.ensures)) c.to_word.ensures.value e.exchanged in
    record {
      marked = record { went = told.went; search = exchanged_keeps _ _ _ _ _ _ e.exchanged };
      closed = told.closed;
      finished = λ k is. told.finished k (c.keys_of.ensures.finished k is);
    }
