use Rattle.std.proofs.Common.{refl}
use Rattle.ist_core.specs.WordTerms.{root_up_to, square_root, degree, part_len, part_lens}
use Rattle.ist_math.proofs.tables.table_of_parts.Goals as goal

pub returns-clause-degrees : goal.returns-clause-degrees
unfolding degree square_root root_up_to
returns-clause-degrees c = refl

pub returns-clause-parts_2_to_5 : goal.returns-clause-parts_2_to_5
unfolding part_lens part_len degree square_root root_up_to
returns-clause-parts_2_to_5 c = refl

pub returns-clause-parts_6_to_8 : goal.returns-clause-parts_6_to_8
unfolding part_lens part_len degree square_root root_up_to
returns-clause-parts_6_to_8 c = refl

pub returns-clause-parts_9_10_16 : goal.returns-clause-parts_9_10_16
unfolding part_lens part_len degree square_root root_up_to
returns-clause-parts_9_10_16 c = refl
