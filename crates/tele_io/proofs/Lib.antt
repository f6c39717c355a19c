pub mod AppendsLemmas
pub mod KeepsLemmas
pub mod OutcomeLemmas
pub mod BufferLemmas
