pub mod OrderLemmas
pub mod SplitLemmas
pub mod DistinctLemmas
pub mod LineLemmas
pub mod AloneLemmas
