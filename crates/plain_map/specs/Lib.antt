-- what the public contracts rest on
pub mod Rising
-- what the functions inside this crate promise each other
pub mod Place
