use Rattle.std.proofs.Common.{refl, rules}
use Rattle.ist_dcss.proofs.CallingLemmas.{met_change}
use Rattle.ist_rebuild.proofs.EventLemmas.{helped_same, help_helped}
use Rattle.laws_coming.proofs.FurtherLemmas.{helped_further}
use Rattle.ist_rebuild.proofs.SlotLemmas.{not_itself, tells_replaced}
use Rattle.ist_rows.proofs.FewStepLemmas.{none_same}
use Rattle.ist_rebuild.proofs.FewLemmas.{none_helped}
use Rattle.ist_rebuild.proofs.finishing.conclude.Goals as goal

-- it was decided yes
pub returns-in-Yes : goal.returns-in-Yes
returns-in-Yes c = search (rules, helped_same, none_same)

-- the slot held a change, which may be helped
pub help-requires-clause-may_help : goal.help-requires-clause-may_help
help-requires-clause-may_help c =
    met_change _ c.know.ensures.sound _ c.requires.ready.0.caller.mine _ _ _ _
    (c.requires.other _ c.in-Other.is) (c.in-Change.ensures.change _ refl)

pub returns-in-Change : goal.returns-in-Change
returns-in-Change c =
    let helped = help_helped _ c.help.new.token _ c.requires.ready.0 c.help.ensures.went in
    let none = none_helped c.args.who.now c.help.new.token _ c.requires.ready.0.caller.mine c.help.ensures.went in
    let further = helped_further _ _ _ c.know.ensures.sound c.help.ensures.went _ _ _ _
    (c.requires.other _ c.in-Other.is) (c.in-Change.ensures.change _ refl) c.help.ensures.out.resolved in
    search rules

-- the other word isn't the rebuild's own
pub unreachable-requires : goal.unreachable-requires
unreachable-requires c =
    not_itself _ _ (c.requires.differs _ c.in-Other.is) (c.in-Itself.ensures.itself refl)

-- the slot held another word
pub returns-in-Another : goal.returns-in-Another
returns-in-Another c =
    let replaced = tells_replaced _ c.know.ensures.sound _ c.requires.plan _ (c.requires.other _ c.in-Other.is)
    (c.in-Another.ensures.no_change refl) (c.in-Another.ensures.another refl) in
    search (rules, helped_same, none_same)
