use Rattle.std.proofs.Common.{subst}
use Rattle.ist_dcss.specs.Installing.{Filling}
use Rattle.ist_updates.proofs.ChangedLemmas.{given_caller, given_refused}
use Rattle.ist_rows.proofs.GoneLemmas.{loads_gone}
use Rattle.ist_rule.specs.RuleTerms.{now}
use Rattle.ist_updates.specs.Further.{HoldsElse}
use Rattle.ist_updates.proofs.changing.install_plan.Goals as goal

-- if it is installed
pub returns-in-Yes-clause-yes : goal.returns-in-Yes-clause-yes
returns-in-Yes-clause-yes g c _ = rw c.give_away.ensures.same.0 (c.install.ensures.yes c.in-Yes.is)

pub returns-in-Yes-clause-caller : goal.returns-in-Yes-clause-caller
returns-in-Yes-clause-caller g c =
    given_caller _ _ c.args.plan c.requires.0.0 c.requires.1.0 c.requires.1.1.0 c.requires.1.1.1.1
    (c.install.ensures.yes c.in-Yes.is) c.give_away.ensures.same c.give_away.ensures.rows

pub returns-in-Yes-clause-refused : goal.returns-in-Yes-clause-refused
returns-in-Yes-clause-refused g c =
    given_refused _ _ c.args.plan c.requires.0.0 c.requires.1.0 c.requires.1.1.0 c.requires.1.1.1.1
    (c.install.ensures.yes c.in-Yes.is) c.give_away.ensures.same c.give_away.ensures.rows

-- and if the slot held another word
pub returns-in-Other-clause-no : goal.returns-in-Other-clause-no
returns-in-Other-clause-no g c _ = (c.install.ensures.other c.in-Other.field-0 c.in-Other.is).seen

pub returns-in-Other-clause-caller : goal.returns-in-Other-clause-caller
returns-in-Other-clause-caller g c =
    (loads_gone (λ e. ⊥) _ _ c.requires.0.0 c.requires.1.0 (c.install.ensures.other _ c.in-Other.is).seen).caller

pub returns-in-Other-clause-refused : goal.returns-in-Other-clause-refused
returns-in-Other-clause-refused g c =
    (loads_gone (λ e. ⊥) _ _ c.requires.0.0 c.requires.1.0 (c.install.ensures.other _ c.in-Other.is).seen).refused

pub returns-in-Other-clause-other : goal.returns-in-Other-clause-other
returns-in-Other-clause-other g c _ =
    let o = c.install.ensures.other c.in-Other.field-0 c.in-Other.is in
    subst (λ (f : Filling). HoldsElse (now c.install.new.token.view) f.change) c.requires.1.1.1.1
    record { word = c.in-Other.field-0; holds = o.in_slot; differs = o.differs }
