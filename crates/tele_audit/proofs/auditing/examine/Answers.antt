use Rattle.tele_audit.proofs.ClaimLemmas.{fails_first, leaf_passes, leaf_fails, reads_meant, row_passes, row_fails}
use Rattle.tele_audit.proofs.auditing.examine.Goals as goal

pub returns-in_default-clause-failed : goal.returns-in_default-clause-failed
returns-in_default-clause-failed g c = λ no.
    fails_first (g.W.WordList.list c.args.words.now) c.args.task.now c.args.marks.now.items
    (c.claim_way.ensures.none c.in_default.is)

-- a leaf
pub returns-in-Leaf-clause-passed : goal.returns-in-Leaf-clause-passed
returns-in-Leaf-clause-passed g c =
    leaf_passes (g.W.WordList.list c.args.words.now) c.args.task.now c.in-Leaf.base
    c.args.marks.now.items c.claim_way.new.marks.items c.in-Some.ensures.claimed _ _ _ _ _
    (reads_meant _ _ c.in-Leaf.is c.in-Some.ensures.reads) c.examine_leaf.ensures.good
    c.examine_leaf.ensures.claimed c.examine_leaf.ensures.found

pub returns-in-Leaf-clause-failed : goal.returns-in-Leaf-clause-failed
returns-in-Leaf-clause-failed g c =
    leaf_fails (g.W.WordList.list c.args.words.now) c.args.task.now c.in-Leaf.base
    c.args.marks.now.items c.claim_way.new.marks.items c.in-Some.ensures.claimed
    c.examine_leaf.result (reads_meant _ _ c.in-Leaf.is c.in-Some.ensures.reads)
    c.examine_leaf.ensures.failed

-- an inner row
pub returns-in-Inner-clause-passed : goal.returns-in-Inner-clause-passed
returns-in-Inner-clause-passed g c =
    row_passes (g.W.WordList.list c.args.words.now) c.args.task.now c.in-Inner.base
    c.args.marks.now.items c.claim_way.new.marks.items c.in-Some.ensures.claimed _ _ _ _ _
    (reads_meant _ _ c.in-Inner.is c.in-Some.ensures.reads) c.examine_row.ensures.good
    c.examine_row.ensures.claimed c.examine_row.ensures.left

pub returns-in-Inner-clause-failed : goal.returns-in-Inner-clause-failed
returns-in-Inner-clause-failed g c =
    row_fails (g.W.WordList.list c.args.words.now) c.args.task.now c.in-Inner.base
    c.args.marks.now.items c.claim_way.new.marks.items c.in-Some.ensures.claimed
    c.examine_row.result (reads_meant _ _ c.in-Inner.is c.in-Some.ensures.reads)
    c.examine_row.ensures.failed
