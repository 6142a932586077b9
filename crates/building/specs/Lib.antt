-- What list building is asked, and what it answers.
pub mod Built
