-- Document 01, section "Frames": triggers, logics and orders, and what a frame does to the desk.
pub mod Triggers
pub mod Steps
pub mod Answers
pub mod Streams
pub mod Kept
pub mod Singly
pub mod Fits
pub mod KeysHeld
pub mod Unplayable
pub mod Inner
pub mod OnBoard
