-- Laws behind list building, by subject.
pub mod Asking
pub mod Making
pub mod Standing
