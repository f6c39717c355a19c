-- what the public contracts rest on, in the order to read them
pub mod CommandLine
pub mod Numbers
pub mod Made
pub mod Summaries
pub mod Jobs
pub mod Causes
pub mod Rounds
pub mod Endings
-- what the functions inside this crate promise each other
pub mod Open
pub mod Due
pub mod Steps
