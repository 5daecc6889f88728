pub mod Runs
pub mod Same
pub mod Sizes
pub mod Pools
pub mod Laws
pub mod Laid
pub mod Slices
