pub mod Run
pub mod Visits
pub mod Compute
pub mod RunLaws
pub mod EndLaws
pub mod OutcomeLaws
