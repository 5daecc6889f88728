-- Names of a text: which are declared, which are used, and what each use means.
pub mod Parts
pub mod Names
pub mod Inner
