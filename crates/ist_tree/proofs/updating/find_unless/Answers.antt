-- A find whose call is given up if it meets the value that is expected.
use Rattle.std.proofs.Common.{◌≡◌, rules}
use Rattle.ist_tree.proofs.FindCallLemmas.{ends_found, found_table, may_end_found, may_stop_found, stops_found}
use Rattle.ist_tree.proofs.updating.find_unless.Goals as goal

-- it met the value
pub give_up-requires-clause-may_give_up : goal.give_up-requires-clause-may_give_up
give_up-requires-clause-may_give_up c = may_stop_found c.pass.invariant c.begin_find-found.ensures.found

pub invariant_of-pass : goal.invariant_of-pass
invariant_of-pass c =
    (stops_found c.pass.invariant c.begin_find-found.ensures.found c.pass.view_is c.give_up.ensures.given_up).pass

pub returns-then-eq-clause-finds : goal.returns-then-eq-clause-finds
returns-then-eq-clause-finds c =
    (stops_found c.pass.invariant c.begin_find-found.ensures.found c.pass.view_is c.give_up.ensures.given_up).finds

pub returns-then-eq-clause-met : goal.returns-then-eq-clause-met
returns-then-eq-clause-met c e =
    let same : c.begin_find-found.result.value ≡ c.args.expected = search rules in rw (← same)
    (stops_found c.pass.invariant c.begin_find-found.ensures.found c.pass.view_is c.give_up.ensures.given_up).met

-- it met another
pub end_call-requires : goal.end_call-requires
end_call-requires c = let all = c.pass.invariant in let it = c.begin_find-found.ensures.found in
    (found_table all it c.pass.view_is c.requires.same_tree c.tree.view_is, (may_end_found all it, search rules))

pub invariant_of-pass-2 : goal.invariant_of-pass-2
invariant_of-pass-2 c =
    (ends_found c.pass.invariant c.begin_find-found.ensures.found c.pass.view_is c.end_call.ensures.ended).ends.pass

pub returns-clause-finds : goal.returns-clause-finds
returns-clause-finds c =
    (ends_found c.pass.invariant c.begin_find-found.ensures.found c.pass.view_is c.end_call.ensures.ended).finds

pub returns-clause-added : goal.returns-clause-added
returns-clause-added c =
    (ends_found c.pass.invariant c.begin_find-found.ensures.found c.pass.view_is c.end_call.ensures.ended).ends.added
