-- The calls on records, and the search phase by itself.
pub mod Runs
pub mod Phases
pub mod Pairs
pub mod Recent
pub mod Finds
