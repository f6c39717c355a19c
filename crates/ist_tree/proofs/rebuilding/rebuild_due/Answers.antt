-- The row is rebuilt, attempt by attempt.
use Rattle.std.proofs.Common.{Ok, ap, ◌∙◌}
use Rattle.laws_coming.proofs.FurtherLemmas.{fewer_left}
use Rattle.ist_tree.specs.CallTerms.{Rebuilds}
use Rattle.ist_tree.proofs.AttemptLemmas.{rebuilt_last, rebuilt_short}
use Rattle.ist_tree.proofs.DueLemmas.{done_more, goes_more, goes_none}
use Rattle.ist_tree.proofs.FurtherLemmas.{may_start_went}
use Rattle.ist_tree.proofs.rebuilding.rebuild_due.Goals as goal

pub turns-init : goal.turns-init
turns-init c = (goes_none _ _ c.know.ensures.sound c.requires.ready.0, λ first done. done)

pub try_due-requires-clause-may_start : goal.try_due-requires-clause-may_start
try_due-requires-clause-may_start c =
    may_start_went Rebuilds _ _ c.turns.invariant.0.on.gone.went _ _ _ c.requires.may_start

pub returns-in_err-try_due : goal.returns-in_err-try_due
returns-in_err-try_due c = record {
  rebuilt = rebuilt_short _ _ _ _ _ c.turns.invariant.0 _ _ c.from_residual.ensures.1
      c.in_err-try_due.ensures.tried;
}

pub returns-then-branch : goal.returns-then-branch
returns-then-branch c = let so_far = c.turns.invariant in let t = c.in_ok-try_due.ensures.tried in
    record { rebuilt = rebuilt_last _ _ _ _ _ so_far.0 _ so_far.1 t c.if-branch.true }

pub turns-preserved : goal.turns-preserved
turns-preserved c = (
  goes_more _ _ _ _ c.turns.invariant.0 c.try_due.ensures.tried.on,
  done_more c.args.who.now c.turns.who c.try_due.new.who c.turns.invariant.0.on.gone.number
      c.turns.invariant.1 c.in_ok-try_due.ensures.tried.done,
)

-- each attempt but the last saw the table make progress
pub turns-smaller : goal.turns-smaller
turns-smaller c = fewer_left _ _ c.try_due.ensures.tried.on.on.gone.went.sound
    (c.try_due.ensures.tried.further (c.in_ok-try_due.was ∙ ap Ok c.if-branch.false))
