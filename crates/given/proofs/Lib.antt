-- The rows of two runs, and when a given list is in form.
pub mod Runs
pub mod InForm
