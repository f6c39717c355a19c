-- what the public contracts rest on, in the order to read them
pub mod Finding
pub mod Telling
pub mod Calls
pub mod Weaving
pub mod Placing
pub mod Loads
pub mod Searching
pub mod Positions
pub mod ExampleCalls
pub mod ExampleRebuilds
pub mod ExampleShares
