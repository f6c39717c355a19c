-- what the public contracts rest on, in the order to read them
pub mod Room
pub mod Remembered
-- what the functions inside this crate promise each other
pub mod Advancing
pub mod Hanging
pub mod Calls
pub mod Entries
pub mod Laying
pub mod Leading
