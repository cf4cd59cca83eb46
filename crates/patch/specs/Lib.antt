pub mod Patch
pub mod Compute
pub mod Laws
pub mod Magnitude
pub mod Examples
