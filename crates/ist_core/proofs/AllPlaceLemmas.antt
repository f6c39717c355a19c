-- What other crates need of rows, their places and their order, from one module.
pub use Rattle.ist_core.proofs.PlaceLemmas.{Claimed, absent, anchor_free, claimed_apart, claimed_within, next_after_fixed, placed, size_positive}
pub use Rattle.ist_core.proofs.RoomLemmas.{anchor_slot, closed_not_open, get-set_other, get-set_same, no_row, slot_once}
pub use Rattle.ist_core.proofs.SlotStepLemmas.{IsNoDecide, WritesNoSlot, WritesSlot, change_stays, install_stands, install_writes, place_writes, resolve_writes, slot_stays}
pub use Rattle.ist_core.proofs.OrderLemmas.{child_above, names, past_change_names, past_rebuild_above}
pub use Rattle.ist_core.proofs.NamingLemmas.{InnerHere, IsChangeFor, IsRebuildFor, RootNames, SideNames, SlotNames, WordsName, side_grows, side_slot, slot_grows, slot_names}
pub use Rattle.ist_core.proofs.NamingStepLemmas.{changed_at-fixed, installed_stands, side_names}
pub use Rattle.ist_core.proofs.HomeLemmas.{HasOneHome, Mentions, mentioned_here, slot_mentions}
pub use Rattle.ist_core.proofs.MentionLemmas.{child_mentioned, mentions_stay, mentions_step, one_parent}
pub use Rattle.ist_core.proofs.ParentLemmas.{one_home}
pub use Rattle.ist_core.proofs.LeafOrderLemmas.{leaves_lie, next_from_rises, next_from_rising, rises_from_next}
pub use Rattle.ist_core.proofs.LeadingLemmas.{LeavesLie, LedTo, LiesIn, child_is, lies_above, parent_of, was_led}
pub use Rattle.ist_core.proofs.UnderLemmas.{ReadsAs, SaysWhere, each_mapped, leaves_lie_in, leaves_under, slot_reads_as, contents_are_one, reached, same_leaves, slots_reached}
pub use Rattle.ist_core.proofs.RisingLemmas.{AreRisingKeys, Rising, child_count_tells, each_of_cut, part_of_each, rises_append}
pub use Rattle.ist_core.proofs.SplitLemmas.{SplitAll, Splits, key_of_leaf, no_split, one_split, split_leaf, split_none, split_row, ideal_rows, root_rows}
pub use Rattle.ist_core.proofs.ShapedLemmas.{StandsShaped, each-flat_map, ideal_shaped, root_shaped, rows_have, shaped}
pub use Rattle.ist_core.proofs.ImageLemmas.{get-words_of_slot, get_after, get_below, has_word}
pub use Rattle.ist_core.proofs.TreeLemmas.{IsTreeRow, root_tree, tree_of_ideal, tree_rows}
pub use Rattle.ist_core.proofs.EntryLemmas.{is_sorted-rising}
pub use Rattle.ist_core.proofs.MapLemmas.{adds_few_keys, adds_one_key, entry, length-pairs_of, map_of-pairs_of, one_kept, one_less, pair, pairs-entries}
pub use Rattle.ist_core.proofs.IntervalLemmas.{both_true, high_key, kept, key_within, left_out, low_key}
pub use Rattle.ist_core.proofs.RootKeyLemmas.{root_set}
pub use Rattle.ist_core.proofs.KeyLemmas.{keys_rising}
