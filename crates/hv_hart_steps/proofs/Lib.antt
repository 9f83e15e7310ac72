-- Lemmas of harts' steps at the components that they touch.
pub mod Spaces
pub mod Moving
