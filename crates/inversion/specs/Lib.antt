pub mod Inversion
pub mod Visits
pub mod Compute
pub mod Nearest
pub mod GridLaws
pub mod Examples
