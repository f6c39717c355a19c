-- what the public contracts rest on, in the order to read them
pub mod Laying
pub mod Calls
-- what the functions inside this crate promise each other
pub mod Putting
pub mod Back
pub mod Left
pub mod Midway
pub mod Reading
pub mod BuildEvents
