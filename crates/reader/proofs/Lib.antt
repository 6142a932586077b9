-- Laws of a reader's steps.
pub mod Sole
