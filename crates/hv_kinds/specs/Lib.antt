pub mod Cause
pub mod Limit
pub mod Pins
