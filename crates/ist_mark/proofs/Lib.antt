pub mod KeepingLemmas
pub mod SubtreeLemmas
pub mod MarkLemmas
pub mod CountLemmas
pub mod FinishLemmas
pub mod PassLemmas
pub mod BelowLemmas
