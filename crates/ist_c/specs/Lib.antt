-- what the exports promise, in the order to read
pub mod Kinds
pub mod Calls
pub mod Conditions
pub mod Reads
pub mod Shots
pub mod Keeping
pub mod Opening
pub mod Passes
pub mod Notes
pub mod Closing
pub mod Listing
