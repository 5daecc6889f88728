-- Laws of what is written into a buffer, for the proofs of this crate and of its callers.
pub mod Written
pub mod Complement
pub mod RoundTrip
pub mod Cases
