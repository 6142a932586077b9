-- What the check of a given list looks at.
pub mod Given
