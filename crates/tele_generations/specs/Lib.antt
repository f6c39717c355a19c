-- what the public contracts rest on, in the order to read them
pub mod Alone
pub mod Runs
pub mod Turns
pub mod Suffixes
pub mod ExampleTurns
pub mod Counts
pub mod Sizes
pub mod Generations
pub mod Tables
pub mod Shelves
pub mod Rounds
-- what the functions inside this crate promise each other
pub mod Ways
