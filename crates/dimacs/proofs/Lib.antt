-- Laws behind the functions, by subject.
pub mod Fronts
pub mod Bytes
pub mod Comments
pub mod Decimals
pub mod TokenKinds
pub mod Steps
pub mod Following
pub mod Tallies
pub mod Writing
pub mod Readings
