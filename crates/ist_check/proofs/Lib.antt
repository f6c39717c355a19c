pub mod TellLemmas
pub mod FinishedLemmas
pub mod EntryLemmas
pub mod StandingLemmas
pub mod RoomLemmas
pub mod ReasonLemmas
