-- what the public contracts rest on, in the order to read them
pub mod Bytes
pub mod Objects
pub mod Streams
pub mod Buffers
