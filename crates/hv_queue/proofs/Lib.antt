pub mod Weights
pub mod Kept
pub mod Best
pub mod Last
