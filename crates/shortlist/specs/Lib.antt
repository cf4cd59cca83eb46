pub mod FirstSix
pub mod Insert
pub mod StartLaws
pub mod SortLaws
pub mod LimitLaws
pub mod Compute
