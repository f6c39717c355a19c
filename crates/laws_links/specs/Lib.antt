-- what the public contracts rest on, in the order to read them
pub mod Linking
pub mod Replacing
pub mod Returning
pub mod Drawing
pub mod Opening
