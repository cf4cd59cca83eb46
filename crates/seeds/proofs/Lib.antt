pub mod TableSteps
pub mod WalkSteps
