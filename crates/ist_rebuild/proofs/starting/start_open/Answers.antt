use Rattle.std.proofs.Common.{refl, Ok, ap, ◌∙◌}
use Rattle.ist_rule.specs.declared.view.View.{View}
use Rattle.ist_rebuild.proofs.BegunLemmas.{begun_more, refused_told, reserved_begun, told_after}
use Rattle.ist_rebuild.proofs.FewLemmas.{few_bare, few_needed}
use Rattle.ist_rebuild.proofs.starting.start_open.Goals as goal

-- a row was refused, and no more words were taken than the two rows need
pub returns-in_err-rows-clause-begun : goal.returns-in_err-rows-clause-begun
returns-in_err-rows-clause-begun c =
    reserved_begun c.args.target c.args.who.now c.prepare.new.who c.in_err-rows.ensures.reserved

pub returns-in_err-rows-clause-told : goal.returns-in_err-rows-clause-told
returns-in_err-rows-clause-told c =
    refused_told _ _ c.requires.caller.0 c.requires.quiet c.in_err-rows.ensures.reserved _ _ _ _
    c.from_residual.ensures.0

pub returns-in_err-rows-clause-few : goal.returns-in_err-rows-clause-few
returns-in_err-rows-clause-few c = few_needed _ _ c.in_err-rows.ensures.reserved

-- the rows are filled
pub put_in-requires : goal.put_in-requires
put_in-requires c = (
  ap (λ (v : View). v.table) c.in_ok-rows.ensures.reserved.went.same ∙ c.requires.caller.1,
  (c.in_ok-rows.ensures.ready, refl),
)

pub returns-clause-begun : goal.returns-clause-begun
returns-clause-begun c =
    begun_more _ _ _ _ (reserved_begun c.args.target _ _ c.in_ok-rows.ensures.reserved) c.put_in.ensures.begun

pub returns-clause-told : goal.returns-clause-told
returns-clause-told c =
    told_after _ _ c.requires.caller.0 c.requires.quiet c.in_ok-rows.ensures.reserved _ _ _ _
    (Ok c.put_in.result) c.put_in.ensures.told

pub returns-clause-few : goal.returns-clause-few
returns-clause-few c =
    few_bare _ c.prepare.new.who _ c.in_ok-rows.ensures.reserved c.put_in.ensures.none
