-- What other crates need of logs, from one module.
pub use Rattle.ist_core.proofs.GrowingLemmas.{all_grow-changed_at, all_grow_same, change_there, child_remains, due_later, get_alike, grows-with_slot, grows_on, inner_there, leaf_there, rebuild_there, slot_remains}
pub use Rattle.ist_core.proofs.FateLemmas.{enabled_before, grow_after, grow_between}
pub use Rattle.ist_core.proofs.PrefixLemmas.{ever_from, ever_later, ever_now, goes_on-append, goes_on_by, goes_on_length, goes_on_more, happened_later, happened_left}
pub use Rattle.ist_core.proofs.FreezingLemmas.{change_read, closed_on, same_change_word, side_not_yes, status_open}
pub use Rattle.ist_core.proofs.FrozenLemmas.{closed, frozen_reads, passed_now, passed_plain, passes_agree, past_no_change}
pub use Rattle.ist_core.proofs.ShownLemmas.{anchor_word, callers_word, fixed_row, image_shows, next_word, one_word, row_word, shown_in_anchor, shown_in_row, word_elsewhere}
pub use Rattle.ist_core.proofs.HoldingLemmas.{next-state, words_are_spent, held-resolved, lost_holder, rows_holder}
pub use Rattle.ist_core.proofs.SettingLemmas.{change_set, room_set, set_by}
pub use Rattle.ist_core.proofs.KeyLemmas.{chain_linked, leads_linked, on_chain_inner}
pub use Rattle.ist_core.proofs.KeepingLemmas.{finished_leaves_stay, leaves_kept}
pub use Rattle.ist_core.proofs.YesLemmas.{count_low, distinct_below, said_something}
pub use Rattle.ist_core.proofs.DrawLemmas.{callers_low, few_draws, finished_grows, finished_once}
pub use Rattle.ist_core.proofs.CallerLemmas.{callers-installed, callers-resolved, callers_step, known_step}
pub use Rattle.ist_core.proofs.RoomLemmas.{held_good, next_within, published_good, ref_of-change, words_same}
pub use Rattle.ist_core.proofs.RefusalLemmas.{NoneDecidedNo, none_refused-changed_at, none_refused-with_row, root_keeps, slot_keeps, status_keeps, yes_keeps}
unfoldable pub use Rattle.ist_core.proofs.RefusalLemmas.{NotRefused}
pub use Rattle.ist_core.proofs.FinishedLemmas.{counts_grows, finished_by}
