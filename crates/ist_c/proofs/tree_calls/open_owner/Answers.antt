-- The handle holds the owner of a new tree, or is as before.
use Rattle.std.proofs.Common.{arith, inr, sym, ap, subst, ◌∙◌}
use Rattle.ist_c.specs.Closing.{fault_status}
use Rattle.ist_c.specs.Opening.{OpensNew, opens_misuse}
use Rattle.ist_c.proofs.PassLemmas.{opened_one, opened_none}
use Rattle.ist_c.proofs.tree_calls.open_owner.Goals as goal

pub returns-then-pairs-gt-PAIRS_LIMIT : goal.returns-then-pairs-gt-PAIRS_LIMIT
returns-then-pairs-gt-PAIRS_LIMIT c = let many = c.if-pairs-gt-PAIRS_LIMIT.true in
    record { opens = opens_misuse c.args.out.now (inr (omega arith)) }

pub returns-in-Ok : goal.returns-in-Ok
returns-in-Ok c = record {
  opens = opened_one c.args.words c.args.number c.args.pairs.now c.in-Ok.owner c.args.out.now c.keep.new.out
      c.keep.result c.in-Ok.ensures.new c.in-Ok.ensures.number c.keep.ensures.keeps;
}

pub returns-in-Err : goal.returns-in-Err
returns-in-Err c = record {
  opens = subst (OpensNew c.args.words c.args.pairs.now c.args.number c.args.out.now c.args.out.now)
      (sym (c.status_for.ensures.value ∙ ap fault_status c.from.ensures))
      (opened_none c.args.words c.args.number c.args.pairs.now c.args.out.now c.in-Err.fault c.in-Err.ensures.fault);
}
