-- what the public contracts rest on, in the order to read them
pub mod Yards
pub mod Runs
-- what the functions inside this crate promise each other
pub mod Tallies
