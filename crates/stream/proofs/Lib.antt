pub mod Whole
pub mod Steps
pub mod Frames
pub mod Held
