use Rattle.std.proofs.Common.{arith}
use Rattle.tele_generations.proofs.NextTableLemmas.{rests_few}
use Rattle.tele_generations.proofs.ways.go_on.Goals as goal

-- no more keys came than tasks went
pub next_words-words-requires-clause-few : goal.next_words-words-requires-clause-few
next_words-words-requires-clause-few c =
    let few = rests_few c.args.turn.answers.items c.args.turn.left.items c.args.turn.pairs.items
    c.in_ok-turn.turn.answers.items c.in_ok-turn.turn.left.items c.in_ok-turn.turn.pairs.items
    c.in_ok-turn.ensures.rested c.requires.rising in
    let fits = c.requires.few in let long = c.len.ensures in omega arith
