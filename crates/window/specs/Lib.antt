pub mod Values
pub mod ValueLaws
pub mod SourceLaws
pub mod SurfaceLaws
