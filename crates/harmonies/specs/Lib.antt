-- Chords and harmonies.
pub mod Harmonies
pub mod Meaning
pub mod Cases
pub mod Inner
