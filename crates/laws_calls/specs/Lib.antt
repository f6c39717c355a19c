-- what the public contracts rest on, in the order to read them
pub mod Sizing
pub mod Rooting
pub mod Dividing
pub mod Carrying
pub mod Finishing
pub mod Freezing
pub mod Owning
pub mod Starting
pub mod Settling
pub mod Walking
pub mod Accepting
pub mod Counting
