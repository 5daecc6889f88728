-- The layout of the lent tables, and a row, a tone and a change taken apart.
pub mod Layout
pub mod Values
pub mod Lent
