-- what the public contracts rest on, in the order to read them
pub mod Growing
pub mod Refusing
pub mod Hands
pub mod Running
pub mod Scripts
pub mod Owning
pub mod Laws
