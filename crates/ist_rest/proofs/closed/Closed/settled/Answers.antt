use Rattle.ist_rest.proofs.WholeLemmas.{stand_hold, stood}
use Rattle.ist_rest.proofs.SettledLemmas.{settled_words}
use Rattle.ist_rest.proofs.closed.Closed.settled.Goals as goal

-- standing words hold pairs
pub are_settled-requires : goal.are_settled-requires
are_settled-requires c = record { hold = stand_hold c.args.self.now c.know.ensures.stands }

-- what the words say is so of the state
pub returns-clause-exact : goal.returns-clause-exact
returns-clause-exact c = λ pairs told s.
    let words = settled_words (stood c.args.self.now pairs told s) in
    let seen = c.are_settled.ensures.exact in
    ((λ yes. words.0 (seen.0 yes)), (λ settled. seen.1 (words.1 settled)))
