-- Laws behind the list calls, by subject.
pub mod Forms
pub mod Lending
