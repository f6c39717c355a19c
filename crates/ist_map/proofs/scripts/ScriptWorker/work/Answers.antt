use Rattle.std.proofs.Common.{rules}
use Rattle.ist_tree.proofs.HeardLemmas.{seen_more_then, seen_same}
use Rattle.ist_map.proofs.HandLemmas.{passed_on}
use Rattle.ist_map.proofs.RefusalLemmas.{refused_now, kept_now}
use Rattle.ist_map.proofs.ScriptLemmas.{told_more}
use Rattle.ist_map.proofs.scripts.ScriptWorker.work.Goals as goal

-- one command more has its reply, and a rebuild was refused
pub returns-in-Some-clause-told : goal.returns-in-Some-clause-told
returns-in-Some-clause-told c =
    told_more _ _ _ _ c.index-command.result.now _ _ _ c.push_reserved.ensures.items (search rules)
    (search rules) c.loop-self.invariant.told c.in_ok-reply.ensures.added

-- one command more has its reply
pub loop-self-preserved : goal.loop-self-preserved
loop-self-preserved c = record {
  seen = seen_more_then _ _ _ c.loop-self.invariant.seen c.call.ensures.seen;
  unrefused = λ none. search rules;
  commands = search rules;
  few = search rules;
  room = search rules;
  told = told_more _ _ _ _ c.index-command.result.now _ _ _ c.push_reserved.ensures.items (search rules)
      (search rules) c.loop-self.invariant.told c.in_ok-reply.ensures.added;
}

-- no call yet
pub loop-self-init : goal.loop-self-init
loop-self-init c = record {
  seen = seen_same _;
  unrefused = λ none. none;
  commands = search rules;
  few = search rules;
  room = search rules;
  told = search rules;
}

-- the last call was refused
pub returns-in_err-reply-clause-refused : goal.returns-in_err-reply-clause-refused
returns-in_err-reply-clause-refused c none =
    passed_on c.from_residual.result _ _ c.from_residual.ensures.1
    (refused_now _ _ _ _ c.loop-self.invariant.seen c.call.ensures.seen c.in_err-reply.ensures.full)

-- the rebuild after it was
pub returns-in-Some-clause-refused : goal.returns-in-Some-clause-refused
returns-in-Some-clause-refused c none =
    kept_now _ _ _ _ c.loop-self.invariant.seen c.call.ensures.seen
    (c.loop-self.invariant.unrefused none) (c.call.ensures.refused _ (search rules))
