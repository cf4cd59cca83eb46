pub mod Intervals
pub mod Windows
pub mod Doubles
pub mod Flags
pub mod Compute
pub mod WrapLaws
pub mod WindowLaws
pub mod Examples
