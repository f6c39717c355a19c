-- what the public contract rests on, in the order to read them
pub mod Failing
pub mod Published
pub mod Conditions
pub mod Verdicts
-- what the functions inside this crate promise each other
pub mod Knowing
