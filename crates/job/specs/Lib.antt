pub mod Printout
pub mod PrintLaws
pub mod Turns
