-- What other crates need of what one event does, from one module.
pub use Rattle.ist_core.proofs.SoundLemmas.{IsReserve, moves_or_reserves, sound}
pub use Rattle.ist_core.proofs.StepLemmas.{sound_start, grow_step, holds_installed, known, rows_placed, rows_resolved, Adds, IsInstalledWith, adds-with_inners, adds_install, held_free, installed_has}
pub use Rattle.ist_core.proofs.MoveLemmas.{HeldLieApart, without-fate, without-kept}
pub use Rattle.ist_core.proofs.InstallLemmas.{with_installed}
pub use Rattle.ist_core.proofs.FreshLemmas.{IsPublishedWith, fresh_stands, pair_size}
pub use Rattle.ist_core.proofs.BornLemmas.{Born, Comes, by_install, by_place, by_root, comes, from_born, from_old}
pub use Rattle.ist_core.proofs.InstallNamingLemmas.{from_plain, not_unset, pair_is_inner}
pub use Rattle.ist_core.proofs.SplitLemmas.{LiesAt, among_bases, base_among, ideal_stands, publishes-with_inners, row_among, tests_base}
pub use Rattle.ist_core.proofs.StartTreeLemmas.{between_once, start_anchor, start_hangs}
pub use Rattle.ist_core.proofs.TouchLemmas.{touches}
