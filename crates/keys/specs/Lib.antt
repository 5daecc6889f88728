-- The held keys of both houses.
pub mod Keys
pub mod Laws
pub mod Inner
