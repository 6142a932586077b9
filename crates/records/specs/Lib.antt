-- What pruning leaves in a lent run.
pub mod Marks
