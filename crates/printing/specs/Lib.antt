-- What is printed, and what the steps of printing answer.
pub mod Printed
pub mod Results
