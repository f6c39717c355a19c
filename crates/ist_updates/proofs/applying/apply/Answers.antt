use Rattle.std.proofs.Common.{[], rules}
use Rattle.ist_updates.proofs.TurnLemmas.{again_smaller, again_walks, is_turn, refused_ends, turn_begun, turn_ends, turn_refused, turns_begin, unmet_ends}
use Rattle.ist_updates.proofs.applying.apply.Goals as goal

pub turns-init : goal.turns-init
turns-init c = turns_begin _ _ c.know.ensures.sound c.requires.asked.0

-- a walk begins, at the anchor
pub descend-requires-clause-asked : goal.descend-requires-clause-asked
descend-requires-clause-asked c =
    let b = is_turn c.requires.asked.0 c.turns.invariant c.begin_search.ensures.begun in
    ((turn_begun b).asked, search rules)

pub descend-requires-clause-came : goal.descend-requires-clause-came
descend-requires-clause-came c =
    ([], (turn_begun (is_turn c.requires.asked.0 c.turns.invariant c.begin_search.ensures.begun)).come)

-- if it must begin again, the table came further
pub turns-preserved : goal.turns-preserved
turns-preserved c =
    let b = is_turn c.requires.asked.0 c.turns.invariant c.begin_search.ensures.begun in
    again_walks b c.in_default.is c.in_ok-outcome.ensures.walk

pub turns-smaller : goal.turns-smaller
turns-smaller c =
    let b = is_turn c.requires.asked.0 c.turns.invariant c.begin_search.ensures.begun in
    again_smaller b c.in_default.is c.in_ok-outcome.ensures.walk

pub returns-in_err-outcome : goal.returns-in_err-outcome
returns-in_err-outcome c =
    let b = is_turn c.requires.asked.0 c.turns.invariant c.begin_search.ensures.begun in
    let e = turn_refused b c.from_residual.result c.from_residual.ensures.1 c.in_err-outcome.ensures.walk in
    let none = refused_ends _ e in search rules

-- or it ended
pub returns-in-Some : goal.returns-in-Some
returns-in-Some c =
    let b = is_turn c.requires.asked.0 c.turns.invariant c.begin_search.ensures.begun in
    let e = turn_ends b c.in-Some.outcome c.in-Some.is c.in_ok-outcome.ensures.walk in
    let done = e.done in let unmet = unmet_ends done in search rules
