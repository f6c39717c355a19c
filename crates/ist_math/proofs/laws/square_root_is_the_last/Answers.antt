use Rattle.ist_core.proofs.AllWordLemmas.{square_root-le, square_root-lt, square_root_is}
use Rattle.ist_math.proofs.laws.square_root_is_the_last.Goals as goal

pub returns-clause-square : goal.returns-clause-square
returns-clause-square c = square_root-le

pub returns-clause-next_square : goal.returns-clause-next_square
returns-clause-next_square c = square_root-lt

pub returns-clause-only : goal.returns-clause-only
returns-clause-only c = square_root_is
