-- what the public contracts rest on, in the order to read them
pub mod Holding
pub mod Mirroring
pub mod Remembering
-- what the functions inside this crate promise each other
pub mod Passing
pub mod Ways
pub mod Kinds
pub mod InstallRows
