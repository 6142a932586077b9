-- Of a given list only its first rows count; words copied out of bytes and written into them; list building from bytes in form.
pub mod FirstRows
pub mod Copies
pub mod Bytes
pub mod InForm
