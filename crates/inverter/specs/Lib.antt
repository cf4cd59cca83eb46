pub mod Inverter
pub mod Plane
pub mod Preimage
pub mod PlacingLaws
pub mod PairLaws
pub mod Compute
