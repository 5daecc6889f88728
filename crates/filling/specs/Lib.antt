-- The tables of a program.
pub mod Tables
pub mod Inner
