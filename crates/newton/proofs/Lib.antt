pub mod RoundSteps
pub mod VisitLaws
pub mod RootLaws
