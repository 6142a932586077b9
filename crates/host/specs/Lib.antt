-- What holds of words that are written in bytes.
pub mod Bytes
