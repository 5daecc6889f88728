pub mod Status
pub mod Reasons
