-- what the public contracts rest on, in the order to read them
pub mod Coming
-- what is built, and then put in place or lost
pub mod Builds
-- that a table made progress between two views
pub mod Further
