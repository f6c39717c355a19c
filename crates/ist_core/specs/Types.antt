-- The types that `src` declares, from one module, for proofs of this crate: another crate names them where they are declared.
pub use Rattle.ist_core.specs.declared.commands.Command.{Command}
pub use Rattle.ist_core.specs.declared.commands.Command.TheVariants.{Get, Put, Remove}
pub use Rattle.ist_core.specs.declared.events.Event.{Event}
pub use Rattle.ist_core.specs.declared.events.Event.TheVariants.{Count, Decide, Draw, Enter, Finish, Install, Lose, Mark, Okay, Pass, Place, Reserve, Resolve, Root}
pub use Rattle.ist_core.specs.declared.events.Who.TheVariants.{Maker}
pub use Rattle.ist_core.specs.declared.lists.HeldRow.{HeldRow}
pub use Rattle.ist_core.specs.declared.lists.Row.{Row}
pub use Rattle.ist_core.specs.declared.pairs.Pair.{Pair}
pub use Rattle.ist_core.specs.declared.states.ChangeRow.{ChangeRow}
pub use Rattle.ist_core.specs.declared.states.InnerRow.{InnerRow}
pub use Rattle.ist_core.specs.declared.states.LeafRow.{LeafRow}
pub use Rattle.ist_core.specs.declared.states.RebuildRow.{RebuildRow}
pub use Rattle.ist_core.specs.declared.states.State.{State}
