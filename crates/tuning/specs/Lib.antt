-- Document 01, "State and retunings".
pub mod Scale
pub mod Tuning
pub mod Desk
pub mod State
pub mod Capped
pub mod FirstMuted
pub mod Sums
pub mod BothEnds
pub mod AtLimits
pub mod ByZero
pub mod Inner
