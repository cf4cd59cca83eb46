pub mod AxisSteps
