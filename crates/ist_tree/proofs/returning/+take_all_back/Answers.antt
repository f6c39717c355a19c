use Rattle.std.proofs.lemmas.List.Elements.{All-push}
use Rattle.ist_core.specs.LogTerms.{GoesOn, same_log}
use Rattle.ist_core.proofs.AllLogLemmas.{goes_on_more}
use Rattle.ist_tree.proofs.returning.+take_all_back.Goals as goal

pub returns-in_default-clause-maker_seen : goal.returns-in_default-clause-maker_seen
returns-in_default-clause-maker_seen g t c = same_log

pub returns-clause-maker_seen : goal.returns-clause-maker_seen
returns-clause-maker_seen g t c =
    goes_on_more c.take_back.ensures.maker.seen c.take_all_back.ensures.maker_seen

-- the last pass, and those before it
pub returns-clause-seen : goal.returns-clause-seen
returns-clause-seen g t c = rw c.in-Some.ensures.items
    (All-push (λ h. GoesOn (g.F.Holds.pass h).seen c.take_all_back.new.maker.seen) _ _
    c.take_all_back.ensures.seen
    (goes_on_more (rw c.into_pass.ensures.pass at c.take_back.ensures.learnt.seen)
    c.take_all_back.ensures.maker_seen))

pub returns-clause-known : goal.returns-clause-known
returns-clause-known g t c = rw c.in-Some.ensures.items
    (All-push g.F.Holds.known _ _ c.take_all_back.ensures.known c.into_pass.ensures.known)
