pub mod CallLemmas
pub mod KindLemmas
pub mod PassLemmas
pub mod ReadLemmas
