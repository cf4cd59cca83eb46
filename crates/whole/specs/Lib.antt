pub mod Windowed
pub mod WholeLaws
