pub mod Axis
pub mod AxisLaws
pub mod Compute
