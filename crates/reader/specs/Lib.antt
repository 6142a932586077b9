-- Where a reader stands after its steps.
pub mod Moves
