-- The laws, for the proofs of other crates.
pub mod Signed
pub mod Difference
pub mod Floor
pub mod Powers
