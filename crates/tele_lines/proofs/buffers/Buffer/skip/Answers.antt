use Rattle.std.proofs.Common.{◌+◌, ◌≤◌, ◌∙◌, sym, ap, subst, length, drop, slice_range, arith}
use Rattle.tele_lines.proofs.BufferLemmas.{slice_range-later, length-slice_range}
use Rattle.tele_lines.proofs.buffers.Buffer.skip.Goals as goal

-- the bytes begin later
pub returns : goal.returns
returns c = let b = c.self.inside in
    let fits : c.args.count ≤ length (slice_range b.bytes b.start b.end) =
    subst (λ xs. c.args.count ≤ length xs) (sym c.self.view_is) c.requires.within in
    let within : b.start + c.args.count ≤ b.end =
    omega (
      arith,
      length-slice_range b.bytes b.start b.end c.self.invariant.0
          (omega (arith, c.self.told, c.self.invariant.1)),
    ) in
    record {
      rest = slice_range-later b.bytes b.start c.args.count b.end within
          ∙ ap (drop c.args.count) c.self.view_is;
    }
