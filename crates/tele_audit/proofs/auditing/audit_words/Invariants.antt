use Rattle.std.proofs.Common.{map}
use Rattle.ist_rest.specs.Steps.{work_left}
use Rattle.tele_audit.specs.Auditing.{HasAudited, slot_of_task}
use Rattle.tele_audit.proofs.auditing.audit_words.Given as goal

abbrev pub invariant-loop-task : goal.invariant-loop-task
invariant-loop-task g l = HasAudited (g.W.WordList.list l.words) l.marks.items l.left.items
    l.found.items

abbrev pub decreases-loop-task : goal.decreases-loop-task
decreases-loop-task g l = work_left (g.W.WordList.list l.words) (map slot_of_task l.left.items)
