-- what the public contracts rest on, in the order to read them
pub mod Zeros
-- what the functions inside this crate promise each other
pub mod Placing
