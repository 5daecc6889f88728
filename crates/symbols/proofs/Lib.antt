pub mod Table
pub mod Alphabet
pub mod Scan
pub mod Parts
pub mod Letters
pub mod Reserved
pub mod Progress
pub mod Examples
