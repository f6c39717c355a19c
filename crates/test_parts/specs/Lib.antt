-- what the tests' functions promise each other
pub mod Samples
