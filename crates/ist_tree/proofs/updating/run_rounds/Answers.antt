-- Rounds of an update and a find: the last returns the reply.
use Rattle.std.proofs.Common.{◌∙◌, Ok, ap}
use Rattle.ist_rebuild.proofs.RefusalLemmas.{passed_on}
use Rattle.ist_tree.proofs.UpdateCallLemmas.{answered_found, answered_taken, met_reply, round_fewer, round_over, rounds_begin, run_found, run_taken, turned_from}
use Rattle.ist_tree.proofs.updating.run_rounds.Goals as goal

pub rounds-init : goal.rounds-init
rounds-init c = rounds_begin _ c.know.ensures.lawful

-- the update was refused
pub returns-in_err-outcome-clause-run : goal.returns-in_err-outcome-clause-run
returns-in_err-outcome-clause-run c = run_taken c.rounds.invariant c.apply_in_call.ensures.worked

pub returns-in_err-outcome-clause-turned_away : goal.returns-in_err-outcome-clause-turned_away
returns-in_err-outcome-clause-turned_away c = passed_on _ _ _ c.from_residual.ensures.1
    (turned_from c.rounds.invariant c.apply_in_call.ensures.worked c.in_err-outcome.ensures.turned_away)

-- it took effect
pub returns-in_default-clause-run : goal.returns-in_default-clause-run
returns-in_default-clause-run c = run_taken c.rounds.invariant c.apply_in_call.ensures.worked

pub returns-in_default-clause-answered : goal.returns-in_default-clause-answered
returns-in_default-clause-answered c =
    let n = c.in_default.not-Unmet in let e = c.in_ok-outcome.ensures in rw c.reply.ensures.value
    (answered_taken c.rounds.invariant c.apply_in_call.ensures.worked (e.updated n) (met_reply _ _ n e.met))

-- the find met another value
pub returns-in-Some-clause-run : goal.returns-in-Some-clause-run
returns-in-Some-clause-run c = let a = c.apply_in_call.ensures in let f = c.find_unless.ensures in
    run_found c.rounds.invariant a.worked (a.missed (c.in_ok-outcome.was ∙ ap Ok c.in-Unmet.is)) f.finds

pub returns-in-Some-clause-answered : goal.returns-in-Some-clause-answered
returns-in-Some-clause-answered c =
    let a = c.apply_in_call.ensures in let f = c.find_unless.ensures in
    answered_found c.rounds.invariant a.worked (a.missed (c.in_ok-outcome.was ∙ ap Ok c.in-Unmet.is)) f.finds
    (rw c.in-Some.is at f.added) (rw c.in-Some.is at f.other)

-- it met the expected one
pub rounds-smaller : goal.rounds-smaller
rounds-smaller c = let a = c.apply_in_call.ensures in let f = c.find_unless.ensures in
    round_fewer c.rounds.invariant a.worked (a.missed (c.in_ok-outcome.was ∙ ap Ok c.in-Unmet.is)) f.finds
    (f.met c.in_default-find_unless.is) c.know-in-rounds.ensures.lawful

pub rounds-preserved : goal.rounds-preserved
rounds-preserved c = let a = c.apply_in_call.ensures in let f = c.find_unless.ensures in
    round_over c.rounds.invariant a.worked (a.missed (c.in_ok-outcome.was ∙ ap Ok c.in-Unmet.is)) f.finds
    (f.met c.in_default-find_unless.is) c.know-in-rounds.ensures.lawful
