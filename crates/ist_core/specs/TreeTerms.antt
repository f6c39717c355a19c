-- What proofs name of the tree and of what changes it, from one module.
pub use Rattle.ist_core.specs.Rebuilding.{IsBuilt, IsDue, IsFinishedWith, IsReplaced, IsStarted, IsUpdate}
pub use Rattle.ist_core.specs.Map.{Map, key_of, listed, map_after, map_of, no_pairs, pairs_between, pairs_of, replay, replies, reply_to, step}
pub use Rattle.ist_core.specs.Links.{Chain, IsChild, Leads, Linked, WasLedTo, WasLinked, WasOnChain, at_anchor, below, down, from_anchor, no_row, one_row}
pub use Rattle.ist_core.specs.Leaves.{HasContents, HasLeaves, PlacedLeaf, SlotsHaveLeaves, leaf_here, no_slot, none_here, one_slot, pair_of, row_here}
pub use Rattle.ist_core.specs.Changes.{Entry, changes, changes_of, command_of, entry_for, entry_of, map_after_entries, map_at, reply_of, value_at, value_in}
pub use Rattle.ist_core.specs.Installing.{CanInstall, ComesByKey, Finishes, FitsKind, HasRoomFor, IsLeafOf, IsUnrefused, PutsLeaf, PutsPair, Removes, Starts, a_finish, a_pair, a_put, a_remove, a_start, new_leaf, new_rebuild, nothing, pair_over, pair_row, same_key}
pub use Rattle.ist_core.specs.Deciding.{AllResolved, AllResolvedOf, CanCount, CanDecide, CanOkay, CanResolve, IsPending, IsUpdateOf, MayBe, SaysYes}
pub use Rattle.ist_core.specs.Growing.{AllGrow, ChangeGrows, Grows, InnerGrows, RebuildGrows, StatusGoesOn, change_grows, inner_grows, is_closed, is_finished, is_marked, leaf_stays, rebuild_grows, status_stays}
pub use Rattle.ist_core.specs.Marking.{ArePassed, CanFinish, CanMark, CanPass, CountsFor, HasTarget, IsCalled, IsFrozen, after_rebuild, as_child, as_target, no_key, of_child, of_target, one_key, one_passed, past_end}
pub use Rattle.ist_core.specs.Standing.{AllFollow, Follows, IsFresh, IsRead, StandAmong, StandsIn, entries_by, entry_by, is_change, makes_entry, position_after}
pub use Rattle.ist_core.specs.Writing.{RowsStand, Touch, first_change, place_in, place_of_slot, place_of_status, published_by, touch_in_root, touch_of, touch_of_count, touch_of_draw, touch_of_okay, touch_of_place, touch_of_resolve, touched}
pub use Rattle.ist_core.specs.Building.{CanDraw, CanLose, CanPlace, CanRoot, HoldsSizes, IsBeaten, IsRoot, LosesBuild, LosesPair, root_top, root_whole}
pub use Rattle.ist_core.specs.Resting.{AllStandIn, IsSettled, StandsFor, told_by_call}
pub use Rattle.ist_core.specs.Rows.{Apart, IsSetAside, IsWithin, at_start, by_caller}
pub use Rattle.ist_core.specs.Freezing.{HasVainChange, IsClosedOver, KeepsWord, holds_change, holds_it}
