-- How the method keeps its rows, and how its settings are asked for.
pub mod Blank
pub mod Lent
