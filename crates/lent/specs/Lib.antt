pub mod FitLaws
pub mod Lent
