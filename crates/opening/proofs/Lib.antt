-- A text that is accepted makes tables and desk right.
pub mod Ready
