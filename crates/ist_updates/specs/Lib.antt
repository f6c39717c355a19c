-- what the public contracts rest on, in the order to read them
pub mod Asking
pub mod Counting
pub mod Refusals
pub mod Meeting
-- what the functions inside this crate promise each other
pub mod Trying
pub mod Walking
pub mod Changing
pub mod Filling
pub mod Answering
pub mod Ending
pub mod Further
