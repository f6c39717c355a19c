-- what the public contracts rest on, in the order to read them
pub mod Marking
-- what the functions inside this crate promise each other
pub mod Passing
pub mod MarkEvents
