-- What proofs name of logs, from one module.
pub use Rattle.ist_core.specs.Logs.{Counts, Draws, Ever, GoesOn, Happened, Log, Loses, Okays, Passes, Reserves, Resolves, one_event, same_log, state}
pub use Rattle.ist_core.specs.Snapshots.{HoldsRow, HoldsRows, Shows, Snapshot, bases_of, sizes_held, sizes_of, with_slot_at, without}
pub use Rattle.ist_core.specs.Lawful.{CanOpen, EachEnabled, Lawful, state_of}
pub use Rattle.ist_core.specs.Elements.{Among, Distinct, Each}
pub use Rattle.ist_core.specs.Authors.{GoesOnBy, IsIdleIn, Later, LaterBy, no_more, one_more, whose}
pub use Rattle.ist_core.specs.Enabled.{CanEnter, CanReserve, Enabled, caller_limit}
pub use Rattle.ist_core.specs.After.{after, decision_word, installed, placed, resolved, side_of, with_change, with_fresh, with_part}
pub use Rattle.ist_core.specs.Histories.{IsLegal, PassCalls, Reading, StandInPrefixes, at_position, comes_first, in_order, put_in, readings, readings_of, told_by_entry, told_by_reading, woven, woven_from}
pub use Rattle.ist_core.specs.Shown.{IsShown, shown_callers, shown_free, shown_next, shown_row, shown_slot, shown_status}
pub use Rattle.ist_core.specs.Replies.{Answered, Refused, refusal, told}
pub use Rattle.ist_core.specs.Fairness.{AreBuilds, IsBuild, IsBuilding, IsFair, IsMerge, IsStuck, at_end, build_part, build_top, build_whole, from_left, from_right, last_build, no_build, spare_sizes, stuck_build}
pub use Rattle.ist_core.specs.Spending.{is_published, reserved_by, spent, still_held, was_lost}
