pub mod LaneLemmas
pub mod PutLemmas
pub mod LogLemmas
pub mod RefusalLemmas
pub mod RanLemmas
