-- What a writer that puts bytes into a text promises, and the lines above the rows.
pub mod Put
pub mod Written
pub mod Head
