-- Laws of lines and frames, for the proofs of this crate and of its callers.
pub mod Lines
pub mod Reading
pub mod Ranges
pub mod Decoding
pub mod LetterRows
pub mod Cases
