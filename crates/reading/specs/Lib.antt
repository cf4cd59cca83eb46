pub mod Reads
pub mod Texts
