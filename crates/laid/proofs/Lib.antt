pub mod EndSteps
pub mod Steps
