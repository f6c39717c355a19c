-- what the public contracts rest on, in the order to read them
pub mod Moments
pub mod RealTime
pub mod Timing
pub mod Making
pub mod Joining
pub mod Keeping
pub mod ExampleMoments
