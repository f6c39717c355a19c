-- The handle holds the next tree's owner, or the closed tree.
use Rattle.std.proofs.Common.{sym, subst}
use Rattle.ist_c.specs.Closing.{OpensInHandle, opens_owner, opens_none}
use Rattle.ist_handles.specs.declared.held.Held.TheVariants as of
use Rattle.ist_c.proofs.close_calls.open_next.Goals as goal

pub returns-in-Ok : goal.returns-in-Ok
returns-in-Ok c = record { opens = opens_owner c.in-Ok.owner c.in-Ok.ensures.new c.in-Ok.ensures.number }

pub returns-in-Err : goal.returns-in-Err
returns-in-Err c = record {
  opens = subst (OpensInHandle c.args.closed c.args.words c.args.number (of.Closed c.args.closed)) (sym c.status_for.ensures.value)
      (opens_none c.in-Err.fault c.requires.within c.in-Err.ensures.fault);
}
