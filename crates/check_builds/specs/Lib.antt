-- what the public contracts rest on, in the order to read them
pub mod HeldRows
pub mod Passed
-- what the functions inside this crate promise each other
pub mod Reading
pub mod Built
pub mod Publishing
pub mod Losing
