-- Laws behind widening, generation and pruning, by subject.
pub mod Blanks
pub mod Next
pub mod Widens
pub mod Judges
pub mod Prunes
pub mod Generates
pub mod Copies
pub mod Standing
