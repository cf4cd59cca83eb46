pub mod AcceptSteps
pub mod FirstOrderSteps
