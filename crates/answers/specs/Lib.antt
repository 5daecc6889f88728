-- Document 01, section "Frames": what an answer's line says.
pub mod Answer
pub mod Told
pub mod Inner
