use Rattle.std.proofs.Common.{◌≡◌, ◌+◌, ◌-◌, ◌≤◌, length, true}
use Rattle.std.specs.Prelude.{IfSome, if◌then◌else◌}
use Rattle.tele_io.specs.Bytes.{Keeps}
use Rattle.tele_lines.specs.Buffers.{unread_of, TellsEndOf, RefillsOnly}
use Rattle.tele_lines.proofs.SparingLemmas.{Took}
use Rattle.tele_lines.proofs.reader.gather.Given as goal

-- no byte is lost, and after the end nothing is read
abbrev pub invariant-loop-bytes : goal.invariant-loop-bytes
invariant-loop-bytes g l = let left = g.S.Source.left in record {
  kept : Keeps (unread_of l.fn.buffer l.fn.ended (left l.fn.source))
      (unread_of l.buffer l.ended (left l.source));
  counted : g.S.Source.faults l.fn.source ≤ g.S.Source.faults l.source;
  end : TellsEndOf l.fn.ended (left l.fn.source) → TellsEndOf l.ended (left l.source);
  took : IfSome (left l.fn.source) (λ bytes. Took l.fn.buffer bytes (left l.source) l.buffer);
  sparing : IfSome (left l.fn.source)
      (λ bytes. RefillsOnly l.fn.buffer l.fn.ended bytes (left l.source));
  again : l.fn.ended ≡ true
      → (l.source ≡ l.fn.source) × (l.buffer ≡ l.fn.buffer) × (l.ended ≡ true);
}

-- a line is decided within 82 bytes, and the end is seen once
abbrev pub decreases-loop-bytes : goal.decreases-loop-bytes
decreases-loop-bytes g l = 83 - length l.buffer + (if l.ended then 0 else 1)
