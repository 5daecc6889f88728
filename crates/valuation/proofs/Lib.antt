pub mod Names
pub mod Contents
pub mod Terms
pub mod Ready
pub mod Tables
