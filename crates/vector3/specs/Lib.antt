pub mod Vector3
pub mod Compute
pub mod Laws
pub mod Examples
