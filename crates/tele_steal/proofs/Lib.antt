pub mod RunLemmas
pub mod ShuffleLemmas
pub mod ViewLemmas
pub mod TallyLemmas
pub mod OwnerLemmas
pub mod OrderLemmas
