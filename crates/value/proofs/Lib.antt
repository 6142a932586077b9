-- Which rows hold the setting.
pub mod Rows
