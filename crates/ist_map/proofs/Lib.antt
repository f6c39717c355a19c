pub mod HandLemmas
pub mod RunLemmas
pub mod RefusalLemmas
pub mod ScriptLemmas
pub mod OwningLemmas
