use Rattle.std.proofs.Common.{◌≡◌, ◌-◌, ◌≤◌}
use Rattle.std.specs.Prelude.{IsSome, None}
use Rattle.ist_core.specs.TreeTerms.{map_of}
use Rattle.tele_lines.specs.Lines.{line_limit}
use Rattle.tele_lines.specs.Progress.{place_of, count_of, stop_of, unread, TellsEnd}
use Rattle.tele_audit.proofs.PackLemmas.{HasGathered}
use Rattle.tele_audit.proofs.packing.gather.Given as goal

-- the map and the lines that are unread leave what all bytes do
abbrev pub invariant-loop-line : goal.invariant-loop-line
invariant-loop-line g l = let left = g.S.Source.left in record {
  gathered : HasGathered (left l.fn.source) (map_of l.plain) (place_of l.lines)
      (unread l.lines (left l.source));
  end : IsSome (left l.fn.source) → TellsEnd l.lines (left l.source);
  going : stop_of l.lines ≡ None;
  counted : g.S.Source.faults l.fn.source ≤ g.S.Source.faults l.source;
}

-- each iteration reads a line, and their number is limited
abbrev pub decreases-loop-line : goal.decreases-loop-line
decreases-loop-line g l = line_limit - count_of l.lines
