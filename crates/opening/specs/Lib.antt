-- What a text gives before its first frame.
pub mod Opening
