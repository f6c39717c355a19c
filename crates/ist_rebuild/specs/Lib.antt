-- what the public contracts rest on, in the order to read them
pub mod Going
pub mod Lacking
pub mod Needs
pub mod Starting
pub mod Helping
-- what the functions inside this crate promise each other
pub mod StartSteps
pub mod Finishing
