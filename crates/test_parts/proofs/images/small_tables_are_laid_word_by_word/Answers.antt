use Rattle.ist_image.proofs.RisingLemmas.{one_opens, two_open}
use Rattle.test_parts.proofs.images.small_tables_are_laid_word_by_word.Goals as goal

pub lay_image-requires : goal.lay_image-requires
lay_image-requires g c = record { opens = one_opens }

pub lay_image-requires-2 : goal.lay_image-requires-2
lay_image-requires-2 g c = record { opens = two_open }
