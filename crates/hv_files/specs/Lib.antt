pub mod FileMap
pub mod Example
pub mod Tree
pub mod Outcome
