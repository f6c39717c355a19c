-- what the public contracts rest on, in the order to read them
pub mod Words
pub mod Meanwhile
pub mod Stability
pub mod Needs
pub mod Progress
pub mod Standstill
pub mod OpenRows
