use Rattle.std.proofs.Common.{◌^◌, ◌+◌, ◌<◌, ap, arith}
use Rattle.ist_rule.proofs.ExchangeLemmas.{known_low, exchanged_keeps}
use Rattle.ist_mark.proofs.FinishLemmas.{keys_few, may_finish, finish_told}
use Rattle.ist_mark.proofs.statuses.finish.Goals as goal

-- the number is a number of few leaves
pub overflow_cast-keys : goal.overflow_cast-keys
overflow_cast-keys c =
    let few = keys_few c.args.token.now.view c.know.ensures.sound c.args.node c.args.keys
    c.requires.may_finish.0 in
    let h : c.args.keys < 2 ^ 32 = omega arith in record { fits = h }

-- the node may be finished
pub exchange-requires : goal.exchange-requires
exchange-requires c =
    let can = may_finish c.args.token.now.view c.know.ensures.sound c.args.node c.args.keys
    c.requires.may_finish.0 (c.from.result + 0) (omega (arith, c.from.ensures)) _ _
    c.to_word.ensures.value c.to_word-2.ensures.value in
    let low = known_low c.args.token.now.view _ c.know.ensures.sound can.known in
    let known = c.know.ensures.words in let same = ap (λ t. t.words) c.requires.may_finish.1 in
    (c.requires.may_finish.1, (omega arith, can))

-- and is finished by this exchange, or was
pub returns : goal.returns
returns c = let e = c.exchange.ensures in
    let told = finish_told c.args.token.now.view c.know.ensures.sound c.args.node c.args.keys
    c.requires.may_finish.0 (c.from.result + 0) (omega (arith, c.from.ensures)) _ _ _ _
    c.to_word.ensures.value c.to_word-2.ensures.value e.exchanged in
    let kept = exchanged_keeps _ _ _ _ _ _ e.exchanged in record {
      marked = record { went = told.0; search = kept };
      finished = told.1;
    }
