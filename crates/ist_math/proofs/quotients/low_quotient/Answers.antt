use Rattle.std.proofs.Common.{◌<◌, ◌^◌, arith}
use Rattle.ist_math.proofs.QuotientLemmas.{shift_of, first_of, first_is, low_quotient-le, low_quotient-pos}
use Rattle.ist_math.proofs.quotients.low_quotient.Goals as goal

-- the first bits have a word's length
pub overflow_cast-first-2 : goal.overflow_cast-first-2
overflow_cast-first-2 c = let h : c.args.rest < 2 ^ 128 = omega arith in
    let fits : first_of c.args.rest (shift_of c.args.rest) < 2 ^ 64 =
    (first_is c.args.rest c.requires.wide h).fits in
    record { fits = fits }

pub returns-clause-low : goal.returns-clause-low
returns-clause-low c = low_quotient-le c.args.rest c.args.divisor (shift_of c.args.rest)

pub returns-clause-some : goal.returns-clause-some
returns-clause-some c = let h : c.args.rest < 2 ^ 128 = omega arith in
    low_quotient-pos c.args.rest c.args.divisor (shift_of c.args.rest)
    (first_is c.args.rest c.requires.wide h) (omega arith)
