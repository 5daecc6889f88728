-- Theorems on the tables of a program, then the steps of reading a text, in the order in which they build on each other.
pub mod Lists
pub mod Filled
pub mod Decoded
pub mod Counted
pub mod InRange
pub mod ValidTables
pub mod Steps
pub mod ItemsRead
pub mod Named
pub mod Settled
pub mod Valuing
pub mod NamePlaces
