use Rattle.std.proofs.Common.{refl, ◌∙◌}
use Rattle.ist_dcss.proofs.FieldLemmas.{started_rebuild}
use Rattle.ist_rebuild.proofs.RefusalLemmas.{has_marked, may_mark}
use Rattle.ist_rows.proofs.FewStepLemmas.{none_kept, none_loads, none_more}
use Rattle.ist_mark.proofs.SubtreeLemmas.{marks_keep}
use Rattle.ist_mark.specs.Marking.{Marks}
use Rattle.ist_rule.proofs.EventLemmas.{goes_on_who}
use Rattle.ist_rebuild.proofs.helping.mark_target.Goals as goal

-- a started rebuild is published
pub target_of-target-requires-clause-published : goal.target_of-target-requires-clause-published
target_of-target-requires-clause-published c =
    started_rebuild _ c.know.ensures.sound c.args.rebuild c.requires.started

-- its target may be marked
pub mark_and_count_from-requires-clause-may_mark : goal.mark_and_count_from-requires-clause-may_mark
mark_and_count_from-requires-clause-may_mark c =
    may_mark c.args.who.now c.target_of-target.new.token c.args.rebuild _ c.requires.ready.0
    c.requires.started c.target_of-target.ensures.seen c.target_of-target.ensures.target

-- the target is then finished, and no word was taken
pub returns : goal.returns
returns c = let who = c.args.who.now in
    let mid = record who { token = c.target_of-target.new.token } in
    let new = record who { token = c.mark_and_count_from.new.token } in
    let loads = c.target_of-target.ensures.seen in let went = c.mark_and_count_from.ensures.went in
    let mine = c.requires.ready.0.caller.mine in
    let marked = has_marked who mid.token new.token c.args.rebuild _ _ c.requires.ready.0 c.requires.started
    loads c.target_of-target.ensures.target went c.mark_and_count_from.ensures.finished in
    record {
      helped = marked.helped;
      none = none_more who mid new (none_loads who mid.token mine loads)
          (none_kept (Marks new.token.view c.target_of-target.result) (marks_keep _ _) mid new refl
          (goes_on_who loads ∙ mine) went);
      buildable = marked.buildable;
    }
