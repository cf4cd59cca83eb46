pub mod Stored
