-- Laws of the search, by subject.
pub mod Covers
pub mod Liveness
pub mod Places
pub mod Steps
pub mod Skipping
pub mod Swift
pub mod Known
pub mod Answered
pub mod Lowering
pub mod Following
pub mod Queries
