-- what the public contracts rest on, in the order to read them
pub mod Lines
pub mod Numerals
pub mod Readings
pub mod Answer
pub mod Rounds
pub mod Progress
-- what the functions inside this crate promise each other
pub mod Words
pub mod Buffers
