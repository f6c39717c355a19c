-- An owner made a pass, which the other handle holds, or none; a handle of something else is as before.
use Rattle.std.proofs.Common.{inl, inr, rules, refl}
use Rattle.ist_c.specs.Passes.{no_maker}
use Rattle.ist_c.proofs.PassLemmas.{made_one, made_none}
use Rattle.ist_c.proofs.tree_calls.pass_in.Goals as goal

pub returns-in-Ok-pass : goal.returns-in-Ok-pass
returns-in-Ok-pass c = let e = c.in-Ok-pass.ensures in record {
  makes = made_one c.args.held.now c.in-Owner.owner c.pass.new.self c.in-Ok-pass.pass c.args.out.now
      c.of.result c.in-Owner.is (record {
        same_tree = e.tree;
        its_tree = e.its_tree;
        number = e.number;
        no_calls = e.no_calls;
        made = e.made;
        taken = e.taken;
      }) c.if-out.false c.of.ensures.full (search rules);
}

pub returns-in-Ok : goal.returns-in-Ok
returns-in-Ok c = record {
  makes = made_none c.args.held.now c.in-Owner.owner c.pass.new.self c.args.out.now c.in-Owner.is
      (c.in-Err-pass.ensures.tree, c.in-Err-pass.ensures.unmade) c.if-out.false;
}

pub returns-in-Owner : goal.returns-in-Owner
returns-in-Owner c = record {
  makes = made_none c.args.held.now c.in-Owner.owner c.in-Owner.owner c.args.out.now c.in-Owner.is
      (refl, refl) c.if-out.false;
}

pub returns : goal.returns
returns c = record { makes = no_maker c.args.held.now c.args.out.now (inr c.in_default.not-Owner) }

pub returns-then-out : goal.returns-then-out
returns-then-out c = record { makes = no_maker c.args.held.now c.args.out.now (inl c.if-out.true) }
