-- What proofs name of words and rows, from one module.
pub use Rattle.ist_core.specs.Pieces.{Change, Inner, Leaf, Piece, Pieces, Rebuild, as_change, as_inner, as_leaf, as_rebuild, change_of, changed_at, counted, drawn, inner_of, leaf_of, rebuild_of, row_at, size_of, with_decision, with_inners, with_root, with_row, with_slot, with_status, words_of}
pub use Rattle.ist_core.specs.References.{ChangeAt, Empty, InnerAt, IsGoodBase, IsGoodRef, LeafAt, RebuildAt, Ref, Unset, good_row_tagged, row_tagged, tag_count, unset_word, word_of}
unfoldable pub use Rattle.ist_core.specs.References.{ref_of}
pub use Rattle.ist_core.specs.StartLayout.{bases_from, pieces_of, placed_parts, rows_from, start, top_row, tree_at}
unfoldable pub use Rattle.ist_core.specs.StartLayout.{rows_within}
pub use Rattle.ist_core.specs.RowLayout.{anchor, anchor_slot_place, anchor_status_place, callers_place, change_decision_offset, change_from_offset, change_index_offset, change_node_offset, change_to_offset, change_words, first_row, inner_count_offset, inner_degree_offset, inner_size_offset, inner_status_offset, inner_words, key_place, leaf_key_offset, leaf_value_offset, leaf_words, next_place, pair_words, place_limit, rebuild_draw_offset, rebuild_root_offset, rebuild_target_offset, rebuild_words, slot_place}
pub use Rattle.ist_core.specs.Slots.{IsChildFor, IsOpen, SlotHolds, anchor_is, change_reads, in_anchor, in_row, logical, of_anchor, of_row, past_change, past_rebuild, rebuild_reads, row_is}
pub use Rattle.ist_core.specs.Arithmetic.{child_count, limit}
unfoldable pub use Rattle.ist_core.specs.Arithmetic.{degree, part_len, part_lens, part_start, root_up_to, square_root}
pub use Rattle.ist_core.specs.Parts.{cut, first_keys, parts}
pub use Rattle.ist_core.specs.Ideals.{AreIdeal, IsIdeal, IsTop, no_part, of_more, of_none, of_one, one_part}
pub use Rattle.ist_core.specs.Limits.{decided_yes_in}
pub use Rattle.ist_core.specs.Statuses.{Finished, Marked, Open, Status, decided_no, decided_yes, finish_kind, finished_word, keys_limit, marked_word, open_word, put_kind, remove_kind, start_kind, status_word, undecided}
unfoldable pub use Rattle.ist_core.specs.Statuses.{status_of}
pub use Rattle.ist_core.specs.Shapes.{share_from, share_from_fits, share_from_is}
unfoldable pub use Rattle.ist_core.specs.Shapes.{depth, depth_within, ideal_words, ideal_words_within, shape, shape_within}
pub use Rattle.ist_core.specs.Images.{IsImage, StandsAt}
