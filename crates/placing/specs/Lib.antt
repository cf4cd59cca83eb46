pub mod Boundary
pub mod TakenLaws
