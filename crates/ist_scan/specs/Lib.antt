-- what the public contracts rest on, in the order to read them
pub mod Shots
pub mod Room
pub mod Totals
pub mod Walks
pub mod Callers
-- what the functions inside this crate promise each other
pub mod Cuts
