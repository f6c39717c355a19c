use Rattle.std.proofs.Common.{◌∷◌, [], refl}
use Rattle.ist_core.specs.WordTerms.{degree, square_root, root_up_to, part_len, part_lens, ideal_words, ideal_words_within, rows_within}
use Rattle.ist_core.specs.ExampleTables.{two_pairs}
use Rattle.ist_image.proofs.RisingLemmas.{two_open}
use Rattle.ist_rule.specs.RuleTerms.{opened_view}
use Rattle.ist_rule.specs.declared.view.TableName.{TableName}
use Rattle.ist_find.specs.Searches.{IsRow}
use Rattle.test_parts.proofs.searches.found_in_two.Goals as goal

-- the table may begin with the pairs
pub lay_image-requires : goal.lay_image-requires
lay_image-requires c = record { opens = rw (c.as_slice.ensures.value, c.in_ok-pairs.ensures.items) two_open }

pub open_table-requires-clause-opens : goal.open_table-requires-clause-opens
open_table-requires-clause-opens c = rw (c.in_ok-image.ensures.size, c.in_ok-pairs.ensures.items) two_open

-- the row at 4 is published
row_there : (table : TableName) → IsRow (opened_view table two_pairs 20) 4
unfolding ideal_words ideal_words_within rows_within degree square_root root_up_to part_len part_lens
row_there table = record {
  row = record { status = 0; count = 0; degree = 2; size = 2; keys = 9 ∷ []; slots = 89 ∷ 105 ∷ [] };
  published = refl;
}

pub child_at-child-requires-clause-row : goal.child_at-child-requires-clause-row
child_at-child-requires-clause-row c =
    rw (c.in_ok-table.ensures.token, c.in_ok-pairs.ensures.items, c.in_ok-image.ensures.size) (row_there _)
