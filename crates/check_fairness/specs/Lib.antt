-- what the public contracts rest on, in the order to read them
pub mod Answers
pub mod Targets
pub mod Searching
pub mod Keeping
pub mod Knowing
-- what the functions inside this crate promise each other
pub mod Readings
pub mod Builds
