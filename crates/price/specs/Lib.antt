pub mod Price
pub mod Evaluations
pub mod Compute
pub mod PriceLaws
pub mod EvaluationLaws
