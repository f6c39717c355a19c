-- what the public contracts rest on, in the order to read them
pub mod Dumps
pub mod Flaws
pub mod Jobs
pub mod Packing
pub mod Runs
pub mod WordLaws
pub mod Laws
-- what the functions inside this crate promise each other
pub mod Taking
pub mod Pieces
pub mod Auditing
