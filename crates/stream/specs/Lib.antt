-- Document 01, section "Frames": standard input, a frame a line.
pub mod Line
pub mod Feed
pub mod Lines
pub mod Inner
