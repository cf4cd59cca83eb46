pub mod Methods
pub mod SquareRoot
pub mod RoundLaws
pub mod Patterns
pub mod RemainderOfBits
