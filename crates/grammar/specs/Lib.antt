-- The syntax of a text: document 01, "Declarations" and "Numbers allowed".
pub mod Syntax
pub mod Terminals
pub mod Reading
pub mod Moves
pub mod Items
pub mod Inner
pub mod Live
