-- Retunings with placeholders.
pub mod Placeholders
pub mod Filling
pub mod Inner
