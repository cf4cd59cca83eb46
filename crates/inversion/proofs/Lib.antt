pub mod SearchSteps
pub mod ExploreSteps
pub mod InversionLaws
pub mod OriginLaws
pub mod PriceLaws
pub mod VisitLaws
pub mod SurfaceLaws
