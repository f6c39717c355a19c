use Rattle.std.proofs.Common.{rules}
use Rattle.ist_dcss.proofs.FieldLemmas.{started_rebuild}
use Rattle.test_rebuilds.proofs.ReadyLemmas.{is_marked}
use Rattle.ist_rebuild.proofs.RefusalLemmas.{HasMarkedForBuild, has_marked, may_mark}
use Rattle.ist_rows.proofs.GoneLemmas.{still_ready}
use Rattle.test_rebuilds.proofs.callers.mark.Goals as goal

-- a started rebuild is published
pub target_of-target-requires-clause-published : goal.target_of-target-requires-clause-published
target_of-target-requires-clause-published c =
    started_rebuild _ c.know.ensures.sound c.args.rebuild c.requires.started

-- the target of a started rebuild may be marked
pub mark_and_count-keys-requires-clause-may_mark : goal.mark_and_count-keys-requires-clause-may_mark
mark_and_count-keys-requires-clause-may_mark c =
    may_mark c.args.who.now c.target_of-target.new.token c.args.rebuild _ c.requires.ready.0
    c.requires.started c.target_of-target.ensures.seen c.target_of-target.ensures.target

-- and is finished then
marked : (c : goal.After-mark_and_count-keys)
    → HasMarkedForBuild c.args.who.now c.mark_and_count-keys.new.token c.args.rebuild
marked c = has_marked c.args.who.now c.target_of-target.new.token _ _ _ _ c.requires.ready.0
    c.requires.started c.target_of-target.ensures.seen c.target_of-target.ensures.target
    c.mark_and_count-keys.ensures.went c.mark_and_count-keys.ensures.finished

pub returns-clause-ready : goal.returns-clause-ready
returns-clause-ready c = (still_ready (marked c).helped.on, search rules)

pub returns-clause-marked : goal.returns-clause-marked
returns-clause-marked c =
    is_marked c.args.who.now c.target_of-target.new.token c.mark_and_count-keys.new.token _ _ _
    c.requires.ready.0 c.requires.started c.target_of-target.ensures.seen c.target_of-target.ensures.target
    c.mark_and_count-keys.ensures.went c.mark_and_count-keys.ensures.finished

pub returns-clause-started : goal.returns-clause-started
returns-clause-started c = (returns-clause-marked c).started

pub returns-clause-buildable : goal.returns-clause-buildable
returns-clause-buildable c = (marked c).buildable
