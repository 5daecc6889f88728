-- Whole numbers: their parts, and division that rounds down.
pub mod Parts
pub mod Floor
