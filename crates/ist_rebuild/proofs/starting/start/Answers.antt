use Rattle.std.proofs.Common.{rules}
use Rattle.ist_build.proofs.ShareLemmas.{err_map}
use Rattle.ist_rebuild.proofs.FewLemmas.{few_begun, few_needed}
use Rattle.ist_rebuild.proofs.BegunLemmas.{begun_more, closed_told, reserved_begun, told_after}
use Rattle.ist_rebuild.proofs.StartAnswerLemmas.{refused_after}
use Rattle.ist_rebuild.proofs.starting.start.Goals as goal

-- the parent was open
pub returns-then-parent_is_open : goal.returns-then-parent_is_open
returns-then-parent_is_open c = let old = c.args.who.now in let mid = c.parent_is_open.new.who in
    let test = c.parent_is_open.ensures.reserved in let e = c.start_open.ensures in
    let begun = begun_more _ _ _ _ (reserved_begun c.args.target old mid test) e.begun in
    let told = told_after old mid c.requires.caller.0 c.requires.quiet test _ _ _ _ _ e.told in
    let new = c.start_open.new.who in let few = few_begun old mid new test e.begun e.few in
    let full = err_map _ _ c.start_open.result (λ full h. refused_after _ _ _ _ full test.went h) e.full in
    search rules

-- the parent wasn't open
pub returns-else-parent_is_open : goal.returns-else-parent_is_open
returns-else-parent_is_open c = let test = c.parent_is_open.ensures.reserved in
    let begun = reserved_begun c.args.target _ _ test in
    let told = closed_told c.args.who.now _ c.requires.caller.0 c.requires.quiet test c.args.parent
    c.args.index c.args.target (c.parent_is_open.ensures.closed c.if-parent_is_open.false) in
    let few = few_needed _ _ test in search rules
