-- Characters as bytes, and ranges of bytes.
pub mod Ascii
