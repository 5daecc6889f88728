-- Sets of numbers 0 to 63, each held as one number.
pub mod Sets
