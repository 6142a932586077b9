-- What a search is asked, and what it answers.
pub mod Good
pub mod Question
