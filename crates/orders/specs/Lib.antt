-- Order records, and the search for a trigger among them.
pub mod Orders
