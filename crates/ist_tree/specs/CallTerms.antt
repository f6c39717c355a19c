-- What proofs name of a tree and of its calls, from one module.
pub use Rattle.ist_tree.specs.declared.freezing.FreezeOutcome.{FreezeOutcome}
pub use Rattle.ist_tree.specs.declared.freezing.Frozen.{Frozen}
pub use Rattle.ist_tree.specs.declared.freezing.Site.{Site}
pub use Rattle.ist_tree.specs.declared.freezing.Site.TheVariants.{Rebuilt, Still}
pub use Rattle.ist_tree.specs.declared.rebuilding.Instead.{Instead}
pub use Rattle.ist_tree.specs.declared.rebuilding.Instead.TheVariants.{Change, Other, Rebuild}
pub use Rattle.ist_tree.specs.Faces.{HasItsCalls, MakerFace, PassFace, TreeFace, calls_in, calls_numbered, changes_seen, noted, with_back}
pub use Rattle.ist_tree.specs.Insides.{HasSettled, IsMaker, IsMakerCounted, IsMakerWith, IsNote, IsPass, IsPassWith, IsPort, face_as, maker_face, note_face, noted_number, pass_face, taken_pass, tree_of}
pub use Rattle.ist_tree.specs.Calls.{AddsCall, BeginsFewWalks, HasLearnt, HasLoadedFew, HasSeenMore, MakerHasLearnt, MakerHasSeenMore, WeavesWith, row_loads}
pub use Rattle.ist_tree.specs.Working.{Applies, CarriesOut, IsAskedToRebuild, IsDueRefused, IsHelpedWord, IsInDueSlot, IsLetGo, IsShut, IsTopCame, IsTopShut, KeepsDone, LeavesShut, Rebuilds, StartsDue, Works, instead_of, is_shut}
pub use Rattle.ist_tree.specs.Freezing.{FreezesInFew, FreezesWhole, HasFrozen, HasFrozenPairs, HasItsPairs, HasStartedNone, HeldInnerRow, IsAllRebuilt, IsFreezeRefused, IsFrozenFor, IsFrozenIn, IsLeftShort, IsPairAt, IsStill, LeavesRebuilt, WasFrozen, all_keys, froze_few, no_key, one_key, ran_short, words_of_freeze}
pub use Rattle.ist_tree.specs.Refusals.{HadTooFew, HasStartsDone, IsAskedForRow, IsAskedIn, IsForHelp, IsForRebuild, IsForSomeNode, IsInSlotOf, IsOnKeysWay, IsRefused, IsRefusedCall, IsRowRefused, IsTopRefused, KeepsRefusal, KeepsRowRefusal, LackedAt, MayBeAsked, PassWasRefused, for_leaf, for_other, for_own, for_pair, for_put, for_rebuild, for_remove, for_start}
pub use Rattle.ist_tree.specs.RealTime.{ClosesInTime, IsLinearizableFor, ReturnsInTime, RunsInTime, StepsIn}
pub use Rattle.ist_tree.specs.FreezeSteps.{Freezes, FreezesTarget, GoesIdle, HasMet, HasNoRow, HasStarted, HasTakenFewUnless, IsAnchorsRow, IsBelowAnchor, IsForNeeded, IsFreezeStopped, IsHelpShort, IsLeafNumber, IsRebuildOf, IsRebuiltIn, IsSite, IsTargetShort, IsTopRebuild, IsTopShort, KeepsDoneBut, MayHaveMet, WasTop, counted_as, rebuild_in}
pub use Rattle.ist_tree.specs.Closing.{ClosesWith, calls_from, calls_taken, told_to}
pub use Rattle.ist_tree.specs.Updates.{HasAnswered, HasMetAt, HasMissedAt, HasRunRounds, HasUpdated, HasWorked, IsBetweenRounds, IsTurnedAway, OnlyFinds}
pub use Rattle.ist_tree.specs.DueRows.{CameDue, CountsNowhere, FinishesFreeze, FinishesStarts, FinishesUpdate, HasCountedInCall, HasDoneItsStarts, InstallsDue, IsClosedAt, IsDueAt, IsTopmostDue, LeavesNoneDue, StartsOnlyDue, all_done, is_closed, kept_refusal, none_came, was_refused, was_short}
pub use Rattle.ist_tree.specs.Rounds.{BeginsFewRounds, HadMissed, HadValue, HasLetGo, HasNoEffect, PaysForWalks}
pub use Rattle.ist_tree.specs.Opening.{HasWords, IsFaultOf, IsNewTree, words_for}
