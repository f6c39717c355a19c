use Rattle.std.proofs.Common.{◌≡◌, ◌-◌, ◌≤◌}
use Rattle.tele_lines.specs.Progress.{IsDone}
use Rattle.tele_lines.proofs.SkippedLemmas.{HasSkipped}
use Rattle.tele_lines.proofs.reader.Lines.next.Given as goal

-- the skipped lines ask for nothing
abbrev pub invariant-loop-item : goal.invariant-loop-item
invariant-loop-item g l = let left = g.S.Source.left in record {
  skipped : HasSkipped l.fn.self l.self (left l.fn.source) (left l.source);
  again : IsDone l.fn.self → IsDone l.self × (l.source ≡ l.fn.source);
  counted : g.S.Source.faults l.fn.source ≤ g.S.Source.faults l.source;
}

-- each iteration reads a line, and at most `limit` lines are allowed
abbrev pub decreases-loop-item : goal.decreases-loop-item
decreases-loop-item g l = l.self.limit - l.self.count
