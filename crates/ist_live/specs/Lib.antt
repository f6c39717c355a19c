-- what the public contracts rest on, in the order to read them
pub mod Reading
pub mod Ends
pub mod Lists
pub mod Pieces
pub mod Cursors
