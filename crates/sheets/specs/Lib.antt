-- What the functions over lent sheets compute, where document 01 has no word for it.
pub mod Numbers
pub mod Open
pub mod Barred
