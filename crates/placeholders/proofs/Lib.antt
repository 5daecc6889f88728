pub mod Items
pub mod Wrong
pub mod Alike
pub mod Beginnings
pub mod FilledLaws
pub mod Written
pub mod Settles
