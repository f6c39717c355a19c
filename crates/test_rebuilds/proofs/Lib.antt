pub mod ReadyLemmas
pub mod DroppedLemmas
pub mod LateLemmas
pub mod RaceLemmas
pub mod UpdateLemmas
