-- Laws of sets, for the proofs of other crates.
pub mod Tests
pub mod Members
pub mod Bits
