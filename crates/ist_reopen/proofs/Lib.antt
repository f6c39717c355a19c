pub mod ReopenLemmas
pub mod GenerationLemmas
pub mod SplitLemmas
pub mod CountLemmas
pub mod LaidLemmas
pub mod PassLemmas
