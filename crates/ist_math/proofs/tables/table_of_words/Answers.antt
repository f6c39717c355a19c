use Rattle.std.proofs.Common.{refl}
use Rattle.ist_core.specs.WordTerms.{root_up_to, square_root, degree, part_len, part_lens, ideal_words_within, ideal_words, shape_within, shape, depth_within, depth}
use Rattle.ist_math.proofs.tables.table_of_words.Goals as goal

pub returns-clause-words : goal.returns-clause-words
unfolding ideal_words ideal_words_within part_lens part_len degree square_root root_up_to
returns-clause-words c = refl

pub returns-clause-shape_of_5 : goal.returns-clause-shape_of_5
unfolding shape shape_within part_lens part_len degree square_root root_up_to
returns-clause-shape_of_5 c = refl

pub returns-clause-shape_of_10 : goal.returns-clause-shape_of_10
unfolding shape shape_within part_lens part_len degree square_root root_up_to
returns-clause-shape_of_10 c = refl

pub returns-clause-depths : goal.returns-clause-depths
unfolding depth depth_within part_lens part_len degree square_root root_up_to
returns-clause-depths c = refl
