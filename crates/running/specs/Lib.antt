-- What is answered for two files.
pub mod Answered
