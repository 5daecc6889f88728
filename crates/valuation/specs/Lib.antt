-- The values of a text's declarations, from its items.
pub mod Inner
