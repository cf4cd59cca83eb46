pub mod Grid
pub mod Visits
pub mod GridLaws
pub mod VisitLaws
pub mod Table
pub mod Walk
pub mod Finite
pub mod Compute
