pub mod Magnitude
pub mod PartLaws
pub mod Accepted
