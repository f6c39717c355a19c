-- What proofs name of the rule, of seats and of what they have seen, from one module.
pub use Rattle.ist_rule.specs.declared.view.About.{About}
pub use Rattle.ist_rule.specs.declared.view.Loads.{Loads}
pub use Rattle.ist_rule.specs.declared.view.OwnWord.{OwnWord}
pub use Rattle.ist_rule.specs.declared.view.Pending.{Pending}
pub use Rattle.ist_rule.specs.declared.view.TableName.{TableName}
pub use Rattle.ist_rule.specs.declared.view.Taken.{Taken}
pub use Rattle.ist_rule.specs.declared.view.View.{View}
pub use Rattle.ist_rule.specs.Learning.{Exchanged, ExchangedOrLost, GoesOnTo, LoadedAs, Logged, LoggedAdd, LoggedLoad, Looked, Naming, Turned, TurnedAt, as_event, as_load, beginning, beginning_read, ending, giving_up, logging, logging_load, made_after, moment_seen, now, searching, seeing, storing}
pub use Rattle.ist_rule.specs.Rule.{Fits, HasView, IsHeard, IsHeardOf, IsMet, IsNamed, IsRetired, IsSound, IsTakenBack, IsTimed, IsTrueIn, IsWellMade, KeepsCalls, Kept, NeverFall, Owns, Recalls, first_view, its_own, no_table, noted, opened_view, own_at}
pub use Rattle.ist_rule.specs.Faces.{TableFace, TokenFace, name_of, word_count_of}
pub use Rattle.ist_rule.specs.Conditions.{CanAdd, CanBegin, CanEnd, CanExchange, CanExchangeOrLose, CanGiveUp, CanLoadAs, CanMake, ComesAt, IsKnown, IsOwn, IsResolved, LeavesAt, MayCome, MayInstall, MayWalk, SeatAllows, StoredAll}
pub use Rattle.ist_rule.specs.Going.{KeepsSearch, KeepsWords, SearchedOn, WentOn}
pub use Rattle.ist_rule.specs.Watching.{CanLoadOkay, CanLoadPass, CanLoadPast, IsNode, is_anchor, is_change_ref, is_inner, is_marked, number_of, okay_of, pass_of, past_of, waits}
pub use Rattle.ist_rule.specs.Standings.{CallStands, HasMade, IsAtWork, IsBetween, IsEntered, IsUndecided, StandsInPrefix, entries_made}
pub use Rattle.ist_rule.specs.Speaking.{HasMoments, HasSpoken, IsSilent, MomentsGoOn, MomentsLater, no_later, one_later, one_moment, pending_of, same_moments}
pub use Rattle.ist_rule.specs.Playing.{Seated, adds, begins, ends, exchanges, exchanges_all, exchanges_or_loses, gives_up, loads_as, looks, names, reads, searches, stores}
pub use Rattle.ist_rule.specs.Seating.{CanJoin, HasImage, IsLast, IsNewMaker, awaits_seat, gone, is_maker, joined, longer, longer_moments, noted_by, plain, split_left, split_right, with_taken}
