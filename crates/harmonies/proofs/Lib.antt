-- What chords and matches are, and the laws that the functions' proofs use.
pub mod Places
pub mod Chords
pub mod Meaning
pub mod Cases
