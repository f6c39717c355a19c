-- A put or a remove in a call of its own.
use Rattle.std.proofs.Common.{Ok, ap, ◌∙◌, refl, sym, subst}
use Rattle.ist_rule.specs.RuleTerms.{word_count_of}
use Rattle.ist_rule.specs.declared.view.View.{View}
use Rattle.ist_updates.specs.Asking.{IsAsked, command_for}
use Rattle.ist_updates.specs.Counting.{LeavesDue}
use Rattle.ist_updates.specs.Meeting.{due_in}
use Rattle.ist_tree.specs.CallTerms.{HasUpdated}
use Rattle.ist_tree.proofs.GoingLemmas.{table_is}
use Rattle.ist_tree.proofs.InstallLemmas.{applied_starts}
use Rattle.ist_tree.proofs.UpdateResultLemmas.{applies_by, due_may_start, let_go}
use Rattle.ist_tree.proofs.UpdateCallLemmas.{CallEnds, CallStops, always_met, begins_update, call_ends, call_may_end, call_stops, not_unmet}
use Rattle.ist_tree.proofs.updating.apply_in_call.Goals as goal
use Rattle.ist_tree.proofs.updating.apply_in_call.Goals.{After-give_up, After-give_up-in-Err}

-- ---- it took effect, or found nothing to remove

pub rebuild_topmost-refused-requires-clause-may_start : goal.rebuild_topmost-refused-requires-clause-may_start
rebuild_topmost-refused-requires-clause-may_start c =
    due_may_start c.begin.new.who.token.view c.apply.new.who.token.view c.begin.new.who.number
    c.due.result
    (subst (LeavesDue c.begin.new.who.token.view c.apply.new.who.token.view c.begin.new.who.number)
    (sym c.due.ensures.value) c.in-Ok.ensures.due)

pub end_call-requires : goal.end_call-requires
end_call-requires c = let did = c.apply.ensures in
    let a = subst (IsAsked c.begin.new.who) c.command.ensures.value c.begin.ensures.asked in
    let m = applies_by c.begin.new.who c.apply.new.who (command_for c.args.update.key c.args.update.value)
    c.in-Ok.outcome c.reply.result c.due.result c.reply.ensures.value c.due.ensures.value did.caller
    did.refused did.quiet did.number did.went did.few_walks
    (c.in-Ok.ensures.answered c.in_default.not-Unmet)
    (c.in-Ok.ensures.counted c.in_default.not-Unmet) c.in-Ok.ensures.due in
    let carried = c.rebuild_topmost-refused.ensures.carried c.begin.new.who
    (command_for c.args.update.key c.args.update.value) c.reply.result a m in (
      ap (λ (v : View). v.table) carried.went.went.same
          ∙ ap (λ (v : View). v.table) c.begin.ensures.begun.view
          ∙ table_is c.pass.inside.caller _ _ _ _ c.pass.view_is c.requires.same_tree
          c.tree.view_is,
      call_may_end _ _ _ _ _ _ _
          (begins_update c.pass.inside.caller c.begin.new.who _ _ _ _ _ _ c.begin.ensures.sound
          c.pass.invariant c.command.ensures.value c.begin.ensures.begun c.begin.ensures.number
          c.pass.view_is c.requires.same_tree c.tree.view_is) _ _ carried,
    )

ends : (c : goal.After-pass-1) → CallEnds c.args.pass.now c.rebuild_topmost-refused.new.who
    c.end_call.new.token c.or-pass-inside.result
    (command_for c.args.update.key c.args.update.value) c.reply.result
ends c = let did = c.apply.ensures in
    let a = subst (IsAsked c.begin.new.who) c.command.ensures.value c.begin.ensures.asked in
    let m = applies_by c.begin.new.who c.apply.new.who (command_for c.args.update.key c.args.update.value)
    c.in-Ok.outcome c.reply.result c.due.result c.reply.ensures.value c.due.ensures.value did.caller
    did.refused did.quiet did.number did.went did.few_walks
    (c.in-Ok.ensures.answered c.in_default.not-Unmet)
    (c.in-Ok.ensures.counted c.in_default.not-Unmet) c.in-Ok.ensures.due in
    call_ends _ _ _ _ _ _ _
    (begins_update c.pass.inside.caller c.begin.new.who _ _ _ _ _ _ c.begin.ensures.sound
    c.pass.invariant c.command.ensures.value c.begin.ensures.begun c.begin.ensures.number
    c.pass.view_is c.requires.same_tree c.tree.view_is) _ _
    (c.rebuild_topmost-refused.ensures.carried c.begin.new.who _ c.reply.result a m)
    (c.rebuild_topmost-refused.ensures.starts c.begin.new.who _ c.reply.result a m) _
    c.end_call.ensures.ended _ c.or-pass-inside.ensures

pub invariant_of-pass-in_default : goal.invariant_of-pass-in_default
invariant_of-pass-in_default c = (ends c).pass

pub returns-in_default-clause-worked : goal.returns-in_default-clause-worked
returns-in_default-clause-worked c = (ends c).worked

pub returns-in_default-clause-updated : goal.returns-in_default-clause-updated
returns-in_default-clause-updated c n =
    subst (HasUpdated c.args.pass.now _ _) c.reply.ensures.value (ends c).updated

pub returns-in_default-clause-missed : goal.returns-in_default-clause-missed
returns-in_default-clause-missed c e = absurd (not_unmet _ c.in_default.not-Unmet e)

pub returns-in_default-clause-always : goal.returns-in_default-clause-always
returns-in_default-clause-always c is =
    subst (HasUpdated c.args.pass.now _ _) c.reply.ensures.value (ends c).updated

-- ---- it was refused

refused : (c : After-give_up-in-Err) → CallStops c.args.pass.now c.begin.new.who
    c.apply.new.who c.give_up-in-Err.new.token c.pass.inside.refused
    (word_count_of c.tree.inside.table)
refused c = let did = c.apply.ensures in let short = c.in-Err.ensures in
    let a = subst (IsAsked c.begin.new.who) c.command.ensures.value c.begin.ensures.asked in
    call_stops _ _ _ _ _ _ _
    (begins_update c.pass.inside.caller c.begin.new.who _ _ _ _ _ _ c.begin.ensures.sound
    c.pass.invariant c.command.ensures.value c.begin.ensures.begun c.begin.ensures.number
    c.pass.view_is c.requires.same_tree c.tree.view_is)
    (let_go c.begin.new.who c.apply.new.who a.caller.mine a.resolved did.caller did.refused did.number
    did.went did.few_walks short.given_up short.none_due short.uncounted)
    (applied_starts c.begin.new.who c.apply.new.who a.caller.mine did.went) _
    c.give_up-in-Err.ensures.given_up

pub invariant_of-pass-in-Err : goal.invariant_of-pass-in-Err
invariant_of-pass-in-Err c = (refused c).pass

pub returns-in-Err-clause-worked : goal.returns-in-Err-clause-worked
returns-in-Err-clause-worked c = (refused c).worked

pub returns-in-Err-clause-turned_away : goal.returns-in-Err-clause-turned_away
returns-in-Err-clause-turned_away c = (refused c).turned_away _ _ _ c.in-Err.ensures.full

-- ---- it met another value

missed : (c : After-give_up) → CallStops c.args.pass.now c.begin.new.who c.apply.new.who
    c.give_up.new.token c.pass.inside.refused (word_count_of c.tree.inside.table)
missed c = let did = c.apply.ensures in let it = c.in-Ok.ensures in let is = ap Ok c.in-Unmet.is in
    let a = subst (IsAsked c.begin.new.who) c.command.ensures.value c.begin.ensures.asked in
    call_stops _ _ _ _ _ _ _
    (begins_update c.pass.inside.caller c.begin.new.who _ _ _ _ _ _ c.begin.ensures.sound
    c.pass.invariant c.command.ensures.value c.begin.ensures.begun c.begin.ensures.number
    c.pass.view_is c.requires.same_tree c.tree.view_is)
    (let_go c.begin.new.who c.apply.new.who a.caller.mine a.resolved did.caller did.refused did.number
    did.went did.few_walks (it.unmet is)
    (subst (λ o. LeavesDue c.begin.new.who.token.view c.apply.new.who.token.view
    c.begin.new.who.number (due_in o)) c.in-Unmet.is it.due) (it.none_counted is))
    (applied_starts c.begin.new.who c.apply.new.who a.caller.mine did.went) _
    c.give_up.ensures.given_up

pub invariant_of-pass : goal.invariant_of-pass
invariant_of-pass c = (missed c).pass

pub returns-in-Unmet-clause-worked : goal.returns-in-Unmet-clause-worked
returns-in-Unmet-clause-worked c = (missed c).worked

pub returns-in-Unmet-clause-updated : goal.returns-in-Unmet-clause-updated
returns-in-Unmet-clause-updated c n = absurd (n refl)

pub returns-in-Unmet-clause-missed : goal.returns-in-Unmet-clause-missed
returns-in-Unmet-clause-missed c e =
    (missed c).missed _ _ (c.in-Ok.ensures.missed (ap Ok c.in-Unmet.is))

pub returns-in-Unmet-clause-always : goal.returns-in-Unmet-clause-always
returns-in-Unmet-clause-always c is =
    absurd (always_met _ is ((missed c).missed _ _ (c.in-Ok.ensures.missed (ap Ok c.in-Unmet.is))))
