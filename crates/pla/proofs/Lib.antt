-- The laws of putting bytes at a position, of what a writer has put, of a text's parts and of the writer's verdict.
pub mod Positions
pub mod Writing
pub mod Parts
pub mod Verdict
