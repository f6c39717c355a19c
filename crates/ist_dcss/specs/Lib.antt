-- what the public contracts rest on, in the order to read them
pub mod Helping
pub mod Installing
pub mod Opening
pub mod Reading
-- what the functions inside this crate promise each other
pub mod HelpEvents
