use Rattle.std.proofs.Common.{◌+◌, ◌/◌, ◌<◌, ◌^◌, arith}
use Rattle.ist_math.proofs.QuotientLemmas.{rest_quotient, quotient_fits}
use Rattle.std.proofs.Math.Nat.{div-mul-le_self}
use Rattle.ist_math.proofs.quotients.wide_quotient.Goals as goal

-- no more is taken than the product has
pub overflow_add-quotient : goal.overflow_add-quotient
overflow_add-quotient c = let low = c.low_quotient-part.ensures.low in
    let h : c.loop-rest.quotient + c.low_quotient-part.result < 2 ^ 64 =
    quotient_fits c.args.product (c.loop-rest.quotient + c.low_quotient-part.result)
    c.args.divisor (omega arith) c.requires.fits in
    record { fits = h }

pub overflow_add-result : goal.overflow_add-result
overflow_add-result c = let low = div-mul-le_self c.loop-rest.rest c.args.divisor in
    let h : c.loop-rest.quotient + c.loop-rest.rest / c.args.divisor < 2 ^ 64 =
    quotient_fits c.args.product (c.loop-rest.quotient + c.loop-rest.rest / c.args.divisor)
    c.args.divisor (omega arith) c.requires.fits in
    record { fits = h }

pub returns-else-last-divisor : goal.returns-else-last-divisor
returns-else-last-divisor c = record {
  value = rest_quotient c.args.product c.loop-rest.quotient c.args.divisor c.loop-rest.rest
      c.requires.some c.loop-rest.invariant;
}
