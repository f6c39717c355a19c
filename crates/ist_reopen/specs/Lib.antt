-- what the public contracts rest on, in the order to read them
pub mod Generations
pub mod Interleaving
pub mod Reopening
pub mod Laws
