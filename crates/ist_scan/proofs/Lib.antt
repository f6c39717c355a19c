pub mod ShotLemmas
pub mod PairLemmas
pub mod HalvingLemmas
pub mod TotalLemmas
pub mod WalkLemmas
pub mod CallerLemmas
pub mod RoomLemmas
