use Rattle.std.proofs.Common.{◌*◌, ap, arith}
use Rattle.std.proofs.lemmas.Nat.{pow_pos, one_shl}
use Rattle.ist_math.proofs.RootLemmas.{half_bits, around_root}
use Rattle.ist_math.proofs.shares.root.Goals as goal

-- the first two powers are around the root
pub loop-low-init : goal.loop-low-init
loop-low-init c = let h = around_root c.args.n c.requires.some c.requires.fits in let few = h.few in
    let small = h.small in let low = h.low in let high = h.high in
    let some = pow_pos (half_bits c.args.n) in
    let is = one_shl (half_bits c.args.n) 64 (omega arith) in let square = ap (λ k. k * k) is in
    let next = ap (λ k. (2 * k) * (2 * k)) is in record {
      between = omega arith;
      small = omega arith;
      square = omega arith;
      next_square = omega arith;
    }
