-- what the public contracts rest on, in the order to read them
pub mod WordRows
pub mod Walks
pub mod RestingWords
pub mod Readings
pub mod Steps
pub mod Listing
pub mod Standings
pub mod Settling
pub mod Laws
