-- Document 01, section "Frames": bytes as hexadecimal digits, numbers as bytes, and lines in a buffer.
pub mod Digits
pub mod Numbers
pub mod Lines
pub mod Cases
