pub mod Chart
pub mod Compute
