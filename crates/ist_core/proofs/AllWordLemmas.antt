-- What other crates need of words, lists and numbers, from one module.
pub use Rattle.ist_core.proofs.OptionLemmas.{no_value, same_change, same_inner, same_leaf, same_rebuild, same_value, among-append, among-filter, among_filter, among_left, among_right, each-among, each-append, each_append, each_of, get_among, map_same, changed_at-other, changed_at-same, changed_at-some, with_inners-other, with_inners-some, with_row-other, with_row-same, among-pieces_of, slice_get-drop, slice_get-take}
pub use Rattle.ist_core.proofs.ReferenceLemmas.{ref_of-empty, ref_of-row, ref_of-unset, ref_of-word_of, word_of-ref_of}
pub use Rattle.ist_core.proofs.PartLemmas.{longer_at, part_end-le, part_len-le, part_len-long, part_len-lt, part_len-pos, part_len-short, part_start-suc, shorter_at, start_at, sum-part_lens, sum_of_more}
pub use Rattle.ist_core.proofs.ShapeLemmas.{ideal_words_many, shape_few, shape_many, shape_none, shape_one}
pub use Rattle.ist_core.proofs.RootLemmas.{degree-le, degree_is, degree_next, least_degree-le, square_root-le, square_root-lt, square_root_is}
pub use Rattle.ist_core.proofs.WordLemmas.{ideal_words_by_two, ideal_words_is, ideal_words_nine, ideal_words_none, ideal_words_one, ideal_words_two}
unfoldable pub use Rattle.ist_core.proofs.WordLemmas.{mixed_words}
pub use Rattle.ist_core.proofs.LayoutLemmas.{FillWords, fills_rows, keys_of_parts, length-cut, length-parts, slots_of-top_row}
pub use Rattle.ist_core.proofs.FieldLemmas.{Has}
pub use Rattle.ist_core.proofs.StatusLemmas.{status_of-finished, status_of-finished_word, status_of-marked, status_of-none, status_of-open, status_word-status_of}
