-- A row is rebuilt, or found shut, or what its slot holds instead is helped.
use Rattle.std.proofs.Common.{Ok, ap}
use Rattle.ist_tree.proofs.AttemptLemmas.{due_node, later_short, marked_tried, other_tried, own_tried, tried_short}
use Rattle.ist_tree.proofs.rebuilding.try_due.Goals as goal

-- the start is refused
pub returns-in_err-rebuild : goal.returns-in_err-rebuild
returns-in_err-rebuild c =
    record { tried = tried_short _ c.from_residual.ensures.1 c.start_due.ensures.on c.in_err-rebuild.ensures.full }

-- a rebuild is started, and helped
pub help_own-requires-clause-started : goal.help_own-requires-clause-started
help_own-requires-clause-started c = c.in_ok-rebuild.ensures.yes _ (ap Ok c.in-Yes.is)

pub returns-in_err-help_own-in-Yes : goal.returns-in_err-help_own-in-Yes
returns-in_err-help_own-in-Yes c =
    let h = c.in_err-help_own-in-Yes.ensures.helped in let on = c.start_due.ensures.on in
    record { tried = later_short _ c.from_residual-in_err-help_own-in-Yes.ensures.1 on h.on h.full }

pub returns-in_ok-help_own-in-Yes : goal.returns-in_ok-help_own-in-Yes
returns-in_ok-help_own-in-Yes c =
    let h = c.in_ok-help_own-in-Yes.ensures.helped in let on = c.start_due.ensures.on in
    record { tried = own_tried on c.in-Yes.is c.in_ok-rebuild.ensures.done h }

-- the parent is marked
pub returns-in-Marked : goal.returns-in-Marked
returns-in-Marked c = let r = c.in_ok-rebuild.ensures in
    record { tried = marked_tried c.start_due.ensures.on c.in-Marked.is r.marked r.done }

-- something else is there
pub returns-in_err-help_other-in-Other : goal.returns-in_err-help_other-in-Other
returns-in_err-help_other-in-Other c =
    let h = c.in_err-help_other-in-Other.ensures.helped in let on = c.start_due.ensures.on in
    record { tried = later_short _ c.from_residual-in_err-help_other-in-Other.ensures.1 on h.on h.full }

pub is_open-requires-clause-node : goal.is_open-requires-clause-node
is_open-requires-clause-node c =
    due_node c.start_due.ensures.on c.in_ok-help_other-in-Other.ensures.helped.on c.requires.may_start

pub returns-in_ok-help_other-in-Other : goal.returns-in_ok-help_other-in-Other
returns-in_ok-help_other-in-Other c =
    let r = c.in_ok-rebuild.ensures in let h = c.in_ok-help_other-in-Other.ensures.helped in
    let on = c.start_due.ensures.on in let o = c.is_open.ensures in
    record { tried = other_tried c.requires.may_start on c.in-Other.is r.other r.done h o.seen o.open }
