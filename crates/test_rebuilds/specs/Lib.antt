-- what the contracts rest on
pub mod Steps
pub mod Late
pub mod Races
