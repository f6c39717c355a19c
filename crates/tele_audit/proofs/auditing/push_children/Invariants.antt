use Rattle.std.proofs.Common.{◌≡◌, ◌≤◌, ◌+◌, ◌++◌, drop, reverse}
use Rattle.ist_rest.specs.WordRows.{row_keys, row_slots}
use Rattle.tele_audit.specs.Auditing.{tasks_from}
use Rattle.tele_audit.proofs.auditing.push_children.Given as goal

abbrev pub invariant-loop-i : goal.invariant-loop-i
invariant-loop-i g l = let words = g.W.WordList.list l.words in
    let place = l.base + 3 + l.degree + l.i in let rest = drop l.i (row_slots words l.base) in
    record {
      high : l.i ≤ l.degree;
      pushed : l.left.items
          ≡ l.initial.left.items ++ reverse (tasks_from l.base l.task (row_keys words l.base) l.i
          place rest);
    }

abbrev pub decreases-loop-i : goal.decreases-loop-i
decreases-loop-i g l = l.i
