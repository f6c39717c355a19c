use Rattle.std.proofs.Common.{rules}
use Rattle.tele_audit.proofs.AuditLemmas.{audit_start, audit_step, audit_fail, audit_end, audit_less}
use Rattle.tele_audit.proofs.auditing.audit_words.Goals as goal

pub loop-task-init : goal.loop-task-init
loop-task-init g c =
    audit_start (g.W.WordList.list c.args.words.now) c.requires.bounds c.in_ok-marks.marks.items
    c.push.new.self.items c.new-left.result.items c.new-found.result.items c.word-used.result
    c.word-first.result
    c.from.result c.word-used.ensures.value c.word-first.ensures.value c.from.ensures
    (c.in_ok-marks.ensures.items_if_clones_equal (λ y e. e)) c.new-left.ensures.items
    c.in_ok-push.ensures.items c.new-found.ensures.items

pub returns-then-not-branch-clause-broken : goal.returns-then-not-branch-clause-broken
returns-then-not-branch-clause-broken g c =
    audit_fail (g.W.WordList.list c.args.words.now) c.requires.bounds c.loop-task.marks.items
    c.loop-task.left.items c.pop.new.self.items c.loop-task.found.items c.in-Some.task
    c.loop-task.invariant c.in-Some.ensures.items
    (c.in_ok-examine.ensures.failed (λ yes. let not = c.if-not-branch.true in cc))

pub loop-task-smaller : goal.loop-task-smaller
loop-task-smaller g c =
    audit_less (g.W.WordList.list c.args.words.now) c.requires.bounds c.loop-task.marks.items
    c.examine.new.marks.items c.loop-task.left.items c.pop.new.self.items
    c.examine.new.left.items c.loop-task.found.items c.examine.new.found.items c.in-Some.task
    c.loop-task.invariant c.in-Some.ensures.items
    (c.in_ok-examine.ensures.passed c.if-not-branch.false)

pub loop-task-preserved : goal.loop-task-preserved
loop-task-preserved g c =
    audit_step (g.W.WordList.list c.args.words.now) c.requires.bounds c.loop-task.marks.items
    c.examine.new.marks.items c.loop-task.left.items c.pop.new.self.items
    c.examine.new.left.items c.loop-task.found.items c.examine.new.found.items c.in-Some.task
    c.loop-task.invariant c.in-Some.ensures.items
    (c.in_ok-examine.ensures.passed c.if-not-branch.false) c.in_ok-examine.ensures.length

pub returns-clause-sound : goal.returns-clause-sound
returns-clause-sound g c = audit_end (g.W.WordList.list c.args.words.now) c.requires.bounds
    c.loop-task.marks.items c.loop-task.left.items c.loop-task.found.items c.loop-task.invariant
    (search rules)
