-- Document 01 as definitions, a module for each of its headings.
pub mod Words
pub mod Sheets
pub mod Search
pub mod Method
pub mod Answers
pub mod Dimacs
pub mod Pla
pub mod Calls
pub mod Program
pub mod Cases
