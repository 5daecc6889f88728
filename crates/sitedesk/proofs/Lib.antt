-- What several proofs cite.
pub mod Ways
