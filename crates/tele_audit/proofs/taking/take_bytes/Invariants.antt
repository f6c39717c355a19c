use Rattle.std.proofs.Common.{◌-◌, ◌≤◌, length}
use Rattle.tele_audit.specs.Taking.{TakesBytes, Extends}
use Rattle.tele_audit.proofs.taking.take_bytes.Given as goal

-- what was taken and what is left are as before
abbrev pub invariant-loop-piece : goal.invariant-loop-piece
invariant-loop-piece g l = record {
  takes : TakesBytes (g.S.Source.left l.fn.source) (g.S.Source.left l.source) l.fn.taken.items l.taken.items;
  extends : Extends l.fn.taken.items l.taken.items;
  counted : g.S.Source.faults l.fn.source ≤ g.S.Source.faults l.source;
}

-- how many bytes are still missing
abbrev pub decreases-loop-piece : goal.decreases-loop-piece
decreases-loop-piece g l = l.count - length l.taken.items
