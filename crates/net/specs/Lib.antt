pub mod Sums
pub mod Net
pub mod Compute
pub mod NetLaws
