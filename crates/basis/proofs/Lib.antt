pub mod Rows
pub mod Gathered
pub mod Parts
pub mod Zeros
