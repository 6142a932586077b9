-- What the comparisons and the measurements are answered.
pub mod Cubes
pub mod Packed
pub mod Phase
