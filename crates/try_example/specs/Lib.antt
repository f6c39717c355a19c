-- what the contracts of the example say
pub mod Turns
pub mod Raises
pub mod Pieces
pub mod Owners
