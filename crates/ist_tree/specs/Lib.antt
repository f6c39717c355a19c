-- what the public contracts rest on, in the order to read them
pub mod Faces
pub mod Opening
pub mod RealTime
pub mod Calls
pub mod Spans
pub mod Sweeps
pub mod Room
pub mod Refusals
pub mod DueRows
pub mod Closing
pub mod Freezing
pub mod Walks
-- what the tokens of a tree are inside
pub mod Insides
-- what the functions inside this crate promise each other
pub mod Rounds
pub mod Updates
pub mod Finding
pub mod Working
pub mod Attempts
pub mod FreezeSteps
pub mod CallTerms
