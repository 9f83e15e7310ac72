-- The components of a board as one kind of value, and when they take a step.
pub mod Value
pub mod Kinds
pub mod Takes
pub mod Admission
