-- What this crate's own types say, in the words of the rules.
pub mod Parts
pub mod Rests
pub mod Heads
pub mod Bodies
pub mod Verdicts
