-- what the public contracts rest on, in the order to read them
pub mod Results
pub mod Pairs
pub mod ShotPieces
pub mod Leaving
-- what a handle owns
pub mod Owning
