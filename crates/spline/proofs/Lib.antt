pub mod WeightSteps
pub mod KnotSteps
