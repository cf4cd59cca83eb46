pub mod Format
pub mod FormatLaws
pub mod Offsets
pub mod OffsetLaws
pub mod ParseLaws
