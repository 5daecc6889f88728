-- What a text leaves.
pub mod Reading
pub mod Inner
