pub mod Bytes
pub mod Symbols
pub mod Names
pub mod Words
pub mod Inner
