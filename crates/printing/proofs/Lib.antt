-- The laws of a refusal's line, of what answers say, of a list's text, and of what is printed.
pub mod Lines
pub mod Verdicts
pub mod Listing
pub mod Outputs
