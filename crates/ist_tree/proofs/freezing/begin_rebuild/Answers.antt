-- A start puts a rebuild below the anchor, or finds another word there.
use Rattle.std.proofs.Common.{Ok, ap, refl}
use Rattle.ist_tree.proofs.DueLemmas.{begins_on, other_leaves, yes_leaves}
use Rattle.ist_tree.proofs.FreezeGoingLemmas.{begins_idle, begun_of, other_reserved, other_unstarted, start_stopped}
use Rattle.ist_core.specs.WordTerms.{anchor_is}
use Rattle.ist_rebuild.proofs.RefusalLemmas.{passed_on}
use Rattle.ist_tree.proofs.FurtherLemmas.{slot_further}
use Rattle.ist_tree.proofs.freezing.begin_rebuild.Goals as goal

pub returns-in_err-rebuild-clause-full : goal.returns-in_err-rebuild-clause-full
returns-in_err-rebuild-clause-full c =
    let s = c.start.ensures in let e = c.in_err-rebuild.ensures in
    let on = begins_on _ _ c.requires.ready.0 s.caller s.refused s.quiet s.went s.number in
    passed_on _ _ _ c.from_residual.ensures.1
    (start_stopped _ _ _ _ (begins_idle _ _ on e.done e.unstarted e.uninstalled) c.requires.row.held e.full e.lacks)

-- a rebuild was started
pub returns-in-Yes-clause-begun : goal.returns-in-Yes-clause-begun
returns-in-Yes-clause-begun c =
    let s = c.start.ensures in let r = c.in_ok-rebuild.ensures in let is = c.in-Yes.is in
    let on = begins_on _ _ c.requires.ready.0 s.caller s.refused s.quiet s.went s.number in
    (on, begun_of (r.yes _ (ap Ok is)), λ first done. yes_leaves first _ _ _ _ is (r.done first done), s.few)

-- another word stood there
pub returns-in-Other-clause-begun : goal.returns-in-Other-clause-begun
returns-in-Other-clause-begun c = let s = c.start.ensures in let r = c.in_ok-rebuild.ensures in
    let on = begins_on _ _ c.requires.ready.0 s.caller s.refused s.quiet s.went s.number in
    begins_idle _ _ on (λ first done. other_leaves first _ _ _ _ c.in-Other.is (r.done first done))
    (other_unstarted c.args.who.now.token.view c.start.new.who.token.view _ _ _ c.in-Other.is r.unstarted)
    (other_reserved _ _ _ _ c.in-Other.is r.uninstalled)

pub returns-in-Other-clause-further : goal.returns-in-Other-clause-further
returns-in-Other-clause-further c _ word is here =
    slot_further _ _ _ c.start.ensures.went _ _ word _ _ is here
    (c.in_ok-rebuild.ensures.other _ (ap Ok c.in-Other.is))

-- the anchor is always open
pub returns-in-Marked : goal.returns-in-Marked
returns-in-Marked c = absurd (c.in_ok-rebuild.ensures.marked (ap Ok c.in-Marked.is) (anchor_is refl))
