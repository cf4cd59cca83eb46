pub mod CheckSteps
pub mod EvaluateSteps
pub mod AxesSteps
