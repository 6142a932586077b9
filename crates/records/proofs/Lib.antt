-- Laws behind pruning where the rows stand, by subject.
pub mod Verdict
pub mod Judged
pub mod Marking
pub mod Told
