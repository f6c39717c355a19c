-- What the slot holds instead of the row is helped: a rebuild, or a change.
use Rattle.std.proofs.Common.{sym, ◌∙◌}
use Rattle.ist_tree.proofs.AttemptLemmas.{other_changed, other_none, other_rebuilt, other_short}
use Rattle.ist_tree.proofs.InsteadLemmas.{names_change, names_rebuild}
use Rattle.ist_tree.proofs.FurtherLemmas.{other_helped, other_started}
use Rattle.ist_tree.proofs.rebuilding.help_other.Goals as goal

-- a rebuild
pub help_rebuild-requires-clause-started : goal.help_rebuild-requires-clause-started
help_rebuild-requires-clause-started c =
    other_started _ c.know.ensures.sound _ _ _ _ _ c.requires.stood
    (names_rebuild _ c.instead_in.ensures.value c.in-Rebuild.is)

pub returns-in-Ok : goal.returns-in-Ok
returns-in-Ok c =
    let is = names_rebuild _ c.instead_in.ensures.value c.in-Rebuild.is in let h = c.help_rebuild.ensures in
    record { helped = other_rebuilt _ _ _ _ _ _ h.helped is c.requires.ready.0 h.finished }

pub returns-in-Err : goal.returns-in-Err
returns-in-Err c =
    let is = names_rebuild _ c.instead_in.ensures.value c.in-Rebuild.is in let h = c.help_rebuild.ensures in
    let stood = c.requires.stood in
    record { helped = other_short _ _ _ _ _ _ h.helped is c.know.ensures.sound stood _ c.in-Err.ensures.full }

-- a change
pub help-requires-clause-may_help : goal.help-requires-clause-may_help
help-requires-clause-may_help c =
    other_helped _ c.know.ensures.sound _ _ _ _ _ c.requires.stood _ c.requires.ready.0.caller.mine
    (names_change _ c.instead_in.ensures.value c.in-Change.is)

pub returns-in-Change : goal.returns-in-Change
returns-in-Change c =
    let is = names_change _ c.instead_in.ensures.value c.in-Change.is in let h = c.help.ensures in
    record { helped = other_changed _ _ _ _ _ _ c.requires.ready.0 h.went is h.out.resolved }

pub returns-in-Other : goal.returns-in-Other
returns-in-Other c = let is = sym c.instead_in.ensures.value ∙ c.in-Other.is in
    record { helped = other_none _ _ _ _ c.know.ensures.sound c.requires.ready.0 is }
