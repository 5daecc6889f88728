-- Document 01, section "Frames": what a line asks.
pub mod Frames
pub mod Cases
pub mod Inner
