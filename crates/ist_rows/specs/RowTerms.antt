-- What proofs name of callers and of the rows that they take, from one module.
pub use Rattle.ist_rows.specs.declared.callers.Caller.{Caller}
pub use Rattle.ist_rows.specs.declared.kinds.Kind.{Kind}
pub use Rattle.ist_rows.specs.declared.kinds.Kind.TheVariants.{Change, Leaf, Pair, Rebuild}
pub use Rattle.ist_rows.specs.Rows.{HasReadNext, HoldsPlace, IsAtTable, IsCaller, IsFreshRow, IsFull, IsKindRefused, Reserved, Spares, build_sizes, held_by, is_base, is_spare, row_of, spares_of, with_spare}
pub use Rattle.ist_rows.specs.Going.{HasGone, IsQuiet, IsReady, StaysReady}
pub use Rattle.ist_rows.specs.Building.{AreStuck, HasRefused, HasTaken, IsInBuild, IsNext, none_stuck, sizes_built, stuck_more}
pub use Rattle.ist_rows.specs.Taken.{HasRunOut, HasTakenFew, HasTakenFewIn, IsLaterCaller, RanOut, TakesFew, TakesNoWords, ran_out, taken_at, taken_by, took_few}
pub use Rattle.ist_rows.specs.CallerLaws.{AreBasesOf, GivesUp, InstallsNone, IsWithout, KeepsRows, held_after, without_row, without_rows}
pub use Rattle.ist_rows.specs.Kinds.{kind_words}
pub use Rattle.ist_rows.specs.Filling.{StandAt, filled_with, storing_all, with_own}
pub use Rattle.ist_rows.specs.Block.{AreNext, HasNoRoom, HoldsBlock, MayTakeAll, ReservedAll, reservings}
pub use Rattle.ist_rows.specs.Shortage.{AreTooFew, LeavesTooFew, LeftTooFew, RanShort}
pub use Rattle.ist_rows.specs.Fairly.{MayTake, reserving}
pub use Rattle.ist_rows.specs.Dropping.{HasLost, HasPairBelow}
pub use Rattle.ist_rows.specs.Entering.{HasEntered}
