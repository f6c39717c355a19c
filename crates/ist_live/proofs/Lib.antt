pub mod ReadLemmas
pub mod SlotLemmas
pub mod ListLemmas
pub mod EndLemmas
pub mod MomentLemmas
pub mod JoinLemmas
pub mod PieceLemmas
