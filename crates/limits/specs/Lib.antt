-- Document 01's table "Numbers allowed", and what a request allows.
pub mod Limits
