-- Laws of sheets read in place, by subject.
pub mod Forms
pub mod Orders
pub mod Signs
pub mod Bytes
pub mod Clauses
pub mod Openness
pub mod Bars
pub mod Over
pub mod Barring
