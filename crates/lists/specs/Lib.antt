-- Which input of the list calls is in form, and what is lent for it.
pub mod Formed
pub mod Lends
