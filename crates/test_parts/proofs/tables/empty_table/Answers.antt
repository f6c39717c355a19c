use Rattle.ist_rows.proofs.EmptyLemmas.{zeros_open, zeros_image}
use Rattle.test_parts.proofs.tables.empty_table.Goals as goal

-- the zeros are as many as asked for
pub open_table-requires-clause-opens : goal.open_table-requires-clause-opens
open_table-requires-clause-opens c = zeros_open _ c.new-pairs.ensures.items c.args.words _
    (c.in_ok-image.ensures.items_if_clones_equal λ x same. same) c.requires.enough c.requires.within

-- and the first is set
pub open_table-requires-clause-image : goal.open_table-requires-clause-image
open_table-requires-clause-image c = zeros_image _ c.new-pairs.ensures.items c.args.words _
    (c.in_ok-image.ensures.items_if_clones_equal λ x same. same) c.requires.enough
