pub mod Edges
pub mod EdgeLaws
pub mod Compute
pub mod Examples
