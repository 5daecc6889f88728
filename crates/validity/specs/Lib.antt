-- Which tables are valid.
pub mod Valid
pub mod Inner
